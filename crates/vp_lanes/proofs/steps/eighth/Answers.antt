use Rattle.std.proofs.Common.{◌∙◌, ap, ℕ, pos, ◌-ℤ◌, ◌<◌, subst, sym}
use Rattle.vp_lanes.proofs.Shape.{unsigned_lanes, lanes_of, zipped, splatted, lane_is}
use mir.Syntax.{w8, shr, unsigned}
use borrow.Rule.Simd.Lanes.{act2}
use borrow.Table.Row.{s_int}
use Rattle.vp_lanes.proofs.Bytes.{byte_lane, splat_lane, eighth_is, eighth_small}
use Rattle.vp_lanes.proofs.steps.eighth.Goals as goal

pub returns-clause-value : goal.returns-clause-value
returns-clause-value c j h =
    let s = unsigned_lanes w8 16 c.saturating_sum.result _ c.saturating_sum.type_inv in
    let e = lane_is 0 (zipped (act2 (shr unsigned) (s_int w8) (s_int w8) (s_int w8)) (lanes_of 0 16 c.saturating_sum.result s.0) (splatted 16 3)) j h in
    ap (λ (n : ℕ). pos n -ℤ pos 16) e ∙ eighth_is _ c.args.by _ _ (byte_lane _ c.fits-a j h) (splat_lane c.args.by j h) (c.saturating_sum.ensures j h)

pub returns-clause-range : goal.returns-clause-range
returns-clause-range c j h =
    let s = unsigned_lanes w8 16 c.saturating_sum.result _ c.saturating_sum.type_inv in
    let e = lane_is 0 (zipped (act2 (shr unsigned) (s_int w8) (s_int w8) (s_int w8)) (lanes_of 0 16 c.saturating_sum.result s.0) (splatted 16 3)) j h in
    subst (λ (n : ℕ). n < 32) (sym e) (eighth_small _ _ _ (c.saturating_sum.ensures j h))
