use Rattle.vp_serve.proofs.ActionLemmas.{no_end}
use Rattle.vp_serve.proofs.laws.no_end_is_reported.Goals as goal

pub returns : goal.returns
returns c = no_end
