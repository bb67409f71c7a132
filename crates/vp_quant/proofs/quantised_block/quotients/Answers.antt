use Rattle.std.proofs.Common.{◌∙◌, w16, get_or}
use Rattle.vp_lanes.proofs.Shape.{lanes_of, lane_is, mapped, zipped, selected, splatted, unsigned_lanes, lane_fits}
use mir.Syntax.{unsigned, lt, mask, wrap_add, wrap_sub, wrap_mul}
use borrow.Rule.Simd.Lanes.{act2}
use borrow.Table.Row.{s_int}
use lib.Lanes.{top}
use Rattle.vp_quant.proofs.Reciprocals.{quotient_is}
use Rattle.vp_quant.proofs.quantised_block.quotients.Goals as goal

pub returns : goal.returns
returns c j h =
    let v = lanes_of 0 16 c.args.v c.fits-v.0 in
    let low = lanes_of 0 16 c.high_halves-low.result (unsigned_lanes w16 16 c.high_halves-low.result _ c.high_halves-low.type_inv).0 in
    let product = zipped (act2 wrap_mul (s_int w16) (s_int w16) (s_int w16)) low (splatted 16 c.args.by) in
    let rest = zipped (act2 wrap_sub (s_int w16) (s_int w16) (s_int w16)) v product in
    let less = mapped (top 15) (zipped (act2 (mask (lt unsigned)) (s_int w16) (s_int w16) (s_int w16)) rest (splatted 16 c.args.by)) in
    let next = zipped (act2 wrap_add (s_int w16) (s_int w16) (s_int w16)) low (splatted 16 1) in
    lane_is 0 (selected less low next) j h
    ∙ quotient_is (get_or c.args.v j 0) c.args.by (get_or c.high_halves-low.result j 0) (lane_fits _ 0 16 c.args.v c.fits-v.0 c.fits-v.1 j h).fits c.requires c.ranges.by.fits (c.high_halves-low.ensures j h)
