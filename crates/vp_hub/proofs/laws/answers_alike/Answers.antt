use Rattle.vp_hub.proofs.Isolation.{alike}
use Rattle.vp_hub.proofs.LimitsLemmas.{new_alike}
use Rattle.vp_hub.proofs.laws.answers_alike.Goals as goal

pub returns-clause-alike : goal.returns-clause-alike
returns-clause-alike c = alike

pub returns-clause-new : goal.returns-clause-new
returns-clause-new c = new_alike
