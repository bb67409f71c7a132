use Rattle.std.proofs.Common.{◌∙◌, ◌/◌, Fits, get_or}
use Rattle.vp_lanes.proofs.Shape.{lane_fits, lanes_of, mapped, zipped, selected, splatted, lane_is, each_lane, length-ByLane}
use mir.Syntax.{w8, w16, lt, mask, unsigned, cast, shr}
use lib.Lanes.{top}
use borrow.Rule.Simd.Lanes.{act1, act2, Asks1}
use borrow.Table.Row.{s_int}
use Rattle.vp_search.proofs.CoarseLemmas.{coarse_lane, coarse_fits}
use Rattle.vp_search.proofs.coarse.coarse_lanes.Goals as goal

pub overflow_cast-result : goal.overflow_cast-result
overflow_cast-result c =
    let s = zipped (act2 (shr unsigned) (s_int w16) (s_int w16) (s_int w16)) (lanes_of 0 8 c.args.sums c.fits-sums.0) (splatted 8 6) in
    let t = mapped (top 15) (zipped (act2 (mask (lt unsigned)) (s_int w16) (s_int w16) (s_int w16)) s (splatted 8 255)) in
    each_lane (Asks1 (cast unsigned unsigned w8) (s_int w16)) (selected t s (splatted 8 255)) (λ j h. record { fits = coarse_fits (get_or c.args.sums j 0 / 64) })

pub returns : goal.returns
returns c =
    let s = zipped (act2 (shr unsigned) (s_int w16) (s_int w16) (s_int w16)) (lanes_of 0 8 c.args.sums c.fits-sums.0) (splatted 8 6) in
    let t = mapped (top 15) (zipped (act2 (mask (lt unsigned)) (s_int w16) (s_int w16) (s_int w16)) s (splatted 8 255)) in
    let m = mapped (act1 (cast unsigned unsigned w8) (s_int w16) (s_int w8)) (selected t s (splatted 8 255)) in
    record {
      eight = length-ByLane m;
      value = λ j h. lane_is 0 m j h ∙ coarse_lane (get_or c.args.sums j 0) (lane_fits (Fits w16) 0 8 c.args.sums c.fits-sums.0 c.fits-sums.1 j h).fits;
    }
