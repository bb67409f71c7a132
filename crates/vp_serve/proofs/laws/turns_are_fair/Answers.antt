use Rattle.vp_serve.proofs.TurnLaws.{fair}
use Rattle.vp_serve.proofs.laws.turns_are_fair.Goals as goal

pub returns : goal.returns
returns c = fair
