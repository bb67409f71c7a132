use Rattle.vp_serve.proofs.TraceRuns.{runs}
use Rattle.vp_serve.proofs.laws.traces_are_runs.Goals as goal

pub returns : goal.returns
returns c = runs
