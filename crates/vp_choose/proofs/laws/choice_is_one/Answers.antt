use Rattle.vp_choose.proofs.OneChoice.{choice_is_one}
use Rattle.vp_choose.proofs.laws.choice_is_one.Goals as goal

pub returns : goal.returns
returns c = choice_is_one
