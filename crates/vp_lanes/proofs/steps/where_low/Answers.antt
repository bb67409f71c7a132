use Rattle.std.proofs.Common.{◌∙◌, ap, ℕ, Bool, cond, get_or, pos, ◌-ℤ◌}
use Rattle.vp_lanes.proofs.Shape.{lanes_of, mapped, zipped, selected, splatted, lane_is}
use mir.Syntax.{w8, lt, mask, unsigned}
use lib.Lanes.{top}
use borrow.Rule.Simd.Lanes.{act2}
use borrow.Table.Row.{s_int}
use Rattle.vp_lanes.proofs.Bytes.{one_top, low_is}
use Rattle.vp_lanes.proofs.steps.where_low.Goals as goal

pub returns : goal.returns
returns c j h =
    let w = lanes_of 0 16 c.args.w c.fits-w.0 in
    let z = splatted 16 c.args.bias in
    let high = mapped (top 7) (zipped (act2 (mask (lt unsigned)) (s_int w8) (s_int w8) (s_int w8)) (splatted 16 c.args.threshold) (lanes_of 0 16 c.args.apart c.fits-apart.0)) in
    ap (λ (n : ℕ). pos n -ℤ pos c.args.bias) (lane_is 0 (selected high z w) j h
    ∙ ap (λ (t : Bool). cond t c.args.bias (get_or c.args.w j 0)) (one_top _)) ∙ low_is _ _ c.args.bias
