use Rattle.vp_serve.proofs.TurnLaws.{begins}
use Rattle.vp_serve.proofs.laws.turns_begin_by_waiting.Goals as goal

pub returns : goal.returns
returns c = begins
