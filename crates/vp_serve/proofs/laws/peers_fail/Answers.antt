use Rattle.vp_serve.proofs.ActionLemmas.{peers_failed}
use Rattle.vp_serve.proofs.laws.peers_fail.Goals as goal

pub returns : goal.returns
returns c = peers_failed
