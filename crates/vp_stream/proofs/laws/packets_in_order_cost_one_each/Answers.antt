use Rattle.vp_stream.proofs.CursorLemmas.{one_each, again, behind_key, before_key, past_it, no_more}
use Rattle.vp_stream.proofs.laws.packets_in_order_cost_one_each.Goals as goal

pub returns-clause-order : goal.returns-clause-order
returns-clause-order c packets n within = one_each packets n within

pub returns-clause-again : goal.returns-clause-again
returns-clause-again c packets n = again packets n

pub returns-clause-between : goal.returns-clause-between
returns-clause-between c packets n key next within is low high = behind_key packets n key next within is low high

pub returns-clause-before : goal.returns-clause-before
returns-clause-before c packets n next le = before_key packets next n le

pub returns-clause-past : goal.returns-clause-past
returns-clause-past c packets n next lt = past_it packets next n lt

pub returns-clause-most : goal.returns-clause-most
returns-clause-most c packets n next = no_more packets next n
