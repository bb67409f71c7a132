use Rattle.vp_serve.proofs.TurnLaws.{of_their_turn}
use Rattle.vp_serve.proofs.laws.actions_are_of_their_turn.Goals as goal

pub returns : goal.returns
returns c = of_their_turn
