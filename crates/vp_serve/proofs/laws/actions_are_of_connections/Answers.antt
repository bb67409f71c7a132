use Rattle.vp_serve.proofs.ActionLemmas.{of_connections}
use Rattle.vp_serve.proofs.laws.actions_are_of_connections.Goals as goal

pub returns : goal.returns
returns c = of_connections
