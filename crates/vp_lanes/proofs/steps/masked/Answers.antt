use Rattle.std.proofs.Common.{◌∙◌, ap, ℕ, pos, ◌-ℤ◌}
use Rattle.vp_lanes.proofs.Shape.{unsigned_lanes, lanes_of, mapped, zipped, selected, splatted, lane_is}
use mir.Syntax.{w8, eq, mask}
use lib.Lanes.{top}
use borrow.Rule.Simd.Lanes.{act2}
use borrow.Table.Row.{s_int}
use Rattle.vp_lanes.proofs.Bytes.{splat_lane, masked_is}
use Rattle.vp_lanes.proofs.steps.masked.Goals as goal

pub returns : goal.returns
returns c j h =
    let r = unsigned_lanes w8 16 c.lane_max.result _ c.lane_max.type_inv in
    let none = mapped (top 7) (zipped (act2 (mask eq) (s_int w8) (s_int w8) (s_int w8)) (lanes_of 0 16 c.lane_max.result r.0) (splatted 16 0)) in
    ap (λ (n : ℕ). pos n -ℤ pos 128) (lane_is 0 (selected none (lanes_of 0 16 c.args.w c.fits-w.0) (splatted 16 128)) j h)
    ∙ masked_is _ _ _ c.args.interior _ _ _ _ (splat_lane c.args.interior j h) (c.excess.ensures j h) (c.saturating_difference-rough.ensures j h) (c.lane_max.ensures j h)
