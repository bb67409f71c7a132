use Rattle.vp_serve.proofs.ActionLemmas.{finished}
use Rattle.vp_serve.proofs.laws.finished_are_closed.Goals as goal

pub returns : goal.returns
returns c = finished
