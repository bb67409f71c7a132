use Rattle.vp_cache.proofs.CursorLemmas.{costs_no_more, none_nearer, next_costs_one, again_costs_none, others_stay}
use Rattle.vp_cache.proofs.NearestLemmas.{none_is_let_go, last_is_let_go, in_order_costs_one_each}
use Rattle.vp_cache.proofs.laws.cursors_save_packets.Goals as goal

pub returns-clause-most : goal.returns-clause-most
returns-clause-most c = costs_no_more

pub returns-clause-nearest : goal.returns-clause-nearest
returns-clause-nearest c = none_nearer

pub returns-clause-order : goal.returns-clause-order
returns-clause-order c = next_costs_one

pub returns-clause-again : goal.returns-clause-again
returns-clause-again c = again_costs_none

pub returns-clause-others : goal.returns-clause-others
returns-clause-others c = others_stay

pub returns-clause-stay : goal.returns-clause-stay
returns-clause-stay c = none_is_let_go

pub returns-clause-last : goal.returns-clause-last
returns-clause-last c = last_is_let_go

pub returns-clause-in_order : goal.returns-clause-in_order
returns-clause-in_order c = in_order_costs_one_each
