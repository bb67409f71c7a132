use Rattle.vp_serve.proofs.TurnLaws.{timely}
use Rattle.vp_serve.proofs.laws.turns_are_timely.Goals as goal

pub returns : goal.returns
returns c = timely
