use Rattle.vp_serve.proofs.ActionLemmas.{reported}
use Rattle.vp_serve.proofs.laws.closings_are_reported.Goals as goal

pub returns : goal.returns
returns c = reported
