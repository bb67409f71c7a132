use Rattle.vp_serve.proofs.TurnLaws.{served}
use Rattle.vp_serve.proofs.laws.ready_are_served.Goals as goal

pub returns : goal.returns
returns c = served
