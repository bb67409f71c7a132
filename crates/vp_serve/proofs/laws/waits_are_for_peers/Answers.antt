use Rattle.vp_serve.proofs.TurnLaws.{waits_for_peers}
use Rattle.vp_serve.proofs.laws.waits_are_for_peers.Goals as goal

pub returns : goal.returns
returns c = waits_for_peers
