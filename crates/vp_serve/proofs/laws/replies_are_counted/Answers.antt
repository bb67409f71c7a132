use Rattle.vp_serve.proofs.ActionLemmas.{counted}
use Rattle.vp_serve.proofs.laws.replies_are_counted.Goals as goal

pub returns : goal.returns
returns c = counted
