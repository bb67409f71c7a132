use Rattle.vp_serve.proofs.TurnLaws.{only_ready}
use Rattle.vp_serve.proofs.laws.only_ready_are_attended.Goals as goal

pub returns : goal.returns
returns c = only_ready
