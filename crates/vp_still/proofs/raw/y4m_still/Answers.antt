use Rattle.std.proofs.Common.{◌∙◌}
use Rattle.vp_still.proofs.PixelLemmas.{whole}
use Rattle.vp_still.proofs.raw.y4m_still.Goals as goal

pub put_y4m-requires : goal.put_y4m-requires
put_y4m-requires c = whole c.in_ok-picture.picture c.dim.result.w c.dim.result.h c.deref.result.now (c.deref.ensures.value ∙ c.in_ok-pixels.ensures) c.dim.ensures.width c.dim.ensures.height
