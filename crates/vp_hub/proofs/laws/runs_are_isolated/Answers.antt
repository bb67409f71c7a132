use Rattle.vp_hub.proofs.Isolation.{isolated}
use Rattle.vp_hub.proofs.laws.runs_are_isolated.Goals as goal

pub returns : goal.returns
returns c s new es os = isolated s es os new
