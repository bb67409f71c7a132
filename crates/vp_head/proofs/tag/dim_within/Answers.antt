use Rattle.std.proofs.Common.{◌∙◌}
use Rattle.vp_head.specs.Sides.{is_below_16384}
use Rattle.vp_head.proofs.Sizes.{within-allowed, within-none, within-too_large, low_bits}
use Rattle.vp_head.proofs.tag.dim_within.Goals as goal

pub returns-in-Ok : goal.returns-in-Ok
returns-in-Ok c =
    let fits = c.in-Ok.ensures.ok in
    within-allowed c.args.limits.now _ _ (is_below_16384 c.args.width) (is_below_16384 c.args.height) c.in-Ok.dim (fits.0 ∙ low_bits _) (fits.1 ∙ low_bits _) (rw (← low_bits c.args.width, ← low_bits c.args.height) fits.4)

pub returns-in-Err-Size : goal.returns-in-Err-Size
returns-in-Err-Size c =
    within-none c.args.limits.now _ _ _ _ (is_below_16384 c.args.width) (is_below_16384 c.args.height) (low_bits _) (low_bits _) (c.in-Err-Size.ensures.size.0 (cc))

pub returns-in-Err-TooLarge : goal.returns-in-Err-TooLarge
returns-in-Err-TooLarge c =
    let over = c.in-Err-TooLarge.ensures.too_large.0 (cc) in
    within-too_large c.args.limits.now _ _ _ _ (is_below_16384 c.args.width) (is_below_16384 c.args.height) (low_bits _) (low_bits _) over.0.0 over.1.0 over.2
