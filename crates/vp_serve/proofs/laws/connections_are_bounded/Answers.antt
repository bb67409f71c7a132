use Rattle.vp_serve.proofs.BoundLemmas.{bounded}
use Rattle.vp_serve.proofs.laws.connections_are_bounded.Goals as goal

pub returns : goal.returns
returns c = bounded
