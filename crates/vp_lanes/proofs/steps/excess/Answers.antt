use Rattle.vp_lanes.proofs.Shape.{unsigned_lanes, lanes_of, zipped, splatted, lane_is}
use mir.Syntax.{w8, shr, unsigned}
use borrow.Rule.Simd.Lanes.{act2}
use borrow.Table.Row.{s_int}
use Rattle.std.proofs.Common.{◌∙◌, ap, ℕ, ◌-◌, get_or}
use Rattle.vp_lanes.proofs.Bytes.{splat_lane, within_is}
use Rattle.vp_lanes.proofs.steps.excess.Goals as goal

pub returns : goal.returns
returns c j h =
    let halved = act2 (shr unsigned) (s_int w8) (s_int w8) (s_int w8) in
    let left = unsigned_lanes w8 16 c.saturating_difference-2.result _ c.saturating_difference-2.type_inv in
    let half = lane_is 0 (zipped halved (lanes_of 0 16 c.args.outer c.fits-outer.0) (splatted 16 1)) j h in
    let most = lane_is 0 (zipped halved (lanes_of 0 16 c.saturating_difference-2.result left.0) (splatted 16 1)) j h in
    within_is _ _ c.args.limit _ _ _ _ _ _ (splat_lane c.args.limit j h) half (c.saturating_difference.ensures j h) (c.saturating_difference-2.ensures j h)
    (c.saturating_difference-3.ensures j h ∙ ap (λ (n : ℕ). get_or c.args.edge j 0 - n) most) (c.lane_max.ensures j h)
