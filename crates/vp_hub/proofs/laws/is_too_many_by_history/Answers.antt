use Rattle.vp_hub.proofs.StandingLemmas.{too_many_by_history}
use Rattle.vp_hub.proofs.laws.is_too_many_by_history.Goals as goal

pub returns : goal.returns
returns c = too_many_by_history
