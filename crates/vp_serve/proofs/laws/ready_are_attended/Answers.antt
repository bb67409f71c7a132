use Rattle.vp_serve.proofs.TurnLaws.{attended}
use Rattle.vp_serve.proofs.laws.ready_are_attended.Goals as goal

pub returns : goal.returns
returns c = attended
