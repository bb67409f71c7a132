use Rattle.vp_serve.proofs.BoundLemmas.{current}
use Rattle.vp_serve.proofs.laws.replies_are_current.Goals as goal

pub returns : goal.returns
returns c = current
