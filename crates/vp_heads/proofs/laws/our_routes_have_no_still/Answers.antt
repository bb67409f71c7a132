use Rattle.vp_heads.proofs.NoStill.{none_by_ours}
use Rattle.vp_heads.proofs.laws.our_routes_have_no_still.Goals as goal

pub returns : goal.returns
returns c = none_by_ours
