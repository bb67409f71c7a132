use Rattle.vp_hub.proofs.StandingLemmas.{stand_to_shut}
use Rattle.vp_hub.proofs.laws.stands_to_shut.Goals as goal

pub returns : goal.returns
returns c = stand_to_shut
