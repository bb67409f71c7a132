use Rattle.vp_serve.proofs.TurnLaws.{counted}
use Rattle.vp_serve.proofs.laws.time_is_counted.Goals as goal

pub returns : goal.returns
returns c = counted
