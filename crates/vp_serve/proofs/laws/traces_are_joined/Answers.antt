use Rattle.vp_serve.proofs.Traces.{joined}
use Rattle.vp_serve.proofs.laws.traces_are_joined.Goals as goal

pub returns : goal.returns
returns c = joined
