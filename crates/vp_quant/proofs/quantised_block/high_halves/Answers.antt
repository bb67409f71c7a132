use Rattle.std.proofs.Common.{◌∙◌, w16, w32, get_or}
use Rattle.vp_lanes.proofs.Shape.{lanes_of, lane_is, mapped, zipped, splatted, each_lane, lane_fits}
use mir.Syntax.{unsigned, cast, shr, wrap_mul}
use borrow.Rule.Simd.Lanes.{act1, act2, Asks1}
use borrow.Table.Row.{s_int}
use Rattle.vp_quant.proofs.Reciprocals.{high_is, high_fits}
use Rattle.vp_quant.proofs.quantised_block.high_halves.Goals as goal

pub overflow_cast-result-3 : goal.overflow_cast-result-3
overflow_cast-result-3 c =
    let v = mapped (act1 (cast unsigned unsigned w32) (s_int w16) (s_int w32)) (lanes_of 0 16 c.args.v c.fits-v.0) in
    let m = zipped (act2 wrap_mul (s_int w32) (s_int w32) (s_int w32)) v (splatted 16 c.args.k) in
    let s = zipped (act2 (shr unsigned) (s_int w32) (s_int w32) (s_int w32)) m (splatted 16 16) in
    each_lane (Asks1 (cast unsigned unsigned w16) (s_int w32)) s (λ j h. record { fits = high_fits _ })

pub returns : goal.returns
returns c j h =
    let v = mapped (act1 (cast unsigned unsigned w32) (s_int w16) (s_int w32)) (lanes_of 0 16 c.args.v c.fits-v.0) in
    let m = zipped (act2 wrap_mul (s_int w32) (s_int w32) (s_int w32)) v (splatted 16 c.args.k) in
    let s = zipped (act2 (shr unsigned) (s_int w32) (s_int w32) (s_int w32)) m (splatted 16 16) in
    let t = mapped (act1 (cast unsigned unsigned w16) (s_int w32) (s_int w16)) s in
    lane_is 0 t j h
    ∙ high_is (get_or c.args.v j 0) c.args.k (lane_fits _ 0 16 c.args.v c.fits-v.0 c.fits-v.1 j h).fits c.ranges.k.fits
