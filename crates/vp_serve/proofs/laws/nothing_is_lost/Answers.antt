use Rattle.vp_serve.proofs.ActionLemmas.{nothing_lost}
use Rattle.vp_serve.proofs.laws.nothing_is_lost.Goals as goal

pub returns : goal.returns
returns c = nothing_lost
