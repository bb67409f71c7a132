use Rattle.std.proofs.Common.{◌∙◌}
use Rattle.vp_still.proofs.PixelLemmas.{whole}
use Rattle.vp_still.proofs.ppm.ppm_still.Goals as goal

pub ppm_file-requires : goal.ppm_file-requires
ppm_file-requires c = whole c.in_ok-picture.picture c.dim.result.w c.dim.result.h c.deref.result.now (c.deref.ensures.value ∙ c.in_ok-pixels.ensures) c.dim.ensures.width c.dim.ensures.height
