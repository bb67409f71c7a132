use Rattle.std.proofs.Common.{◌∙◌}
use Rattle.vp_still.proofs.PixelLemmas.{whole}
use Rattle.vp_still.proofs.webp.found_picture.Goals as goal

pub invariant_of-result : goal.invariant_of-result
invariant_of-result c = record {
  whole = whole c.args.picture.now c.dim.result.w c.dim.result.h c.from_vec-2.result (c.from_vec-2.ensures ∙ c.in_ok-pixels.ensures) c.dim.ensures.width c.dim.ensures.height;
}
