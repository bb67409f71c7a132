use Rattle.vp_hub.proofs.InOrderLemmas.{hits_cost_nothing, misses_cost_the_least, next_frame, same_frame}
use Rattle.vp_hub.proofs.laws.frames_in_order_cost_one_each.Goals as goal

pub returns-clause-hits : goal.returns-clause-hits
returns-clause-hits c = hits_cost_nothing

pub returns-clause-misses : goal.returns-clause-misses
returns-clause-misses c = misses_cost_the_least

pub returns-clause-order : goal.returns-clause-order
returns-clause-order c = next_frame

pub returns-clause-again : goal.returns-clause-again
returns-clause-again c = same_frame
