use Rattle.vp_heads.proofs.HeadLemmas.{asked_unique}
use Rattle.vp_heads.proofs.laws.heads_are_unique.Goals as goal

pub returns : goal.returns
returns c = asked_unique
