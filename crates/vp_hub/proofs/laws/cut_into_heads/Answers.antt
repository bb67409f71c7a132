use Rattle.vp_hub.proofs.Cutting.{cut_into_heads}
use Rattle.vp_hub.proofs.laws.cut_into_heads.Goals as goal

pub returns : goal.returns
returns c = cut_into_heads
