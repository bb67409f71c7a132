use Rattle.vp_hub.proofs.Isolation.{runs_joined}
use Rattle.vp_hub.proofs.laws.runs_are_joined.Goals as goal

pub returns : goal.returns
returns c s mid new es fs os ps = runs_joined s es os mid fs ps new
