use Rattle.vp_serve.proofs.SameLemmas.{same_connections as open_in_both}
use Rattle.vp_serve.proofs.laws.same_connections.Goals as goal

pub returns : goal.returns
returns c = open_in_both
