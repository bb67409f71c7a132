use Rattle.std.proofs.Common.{◌∙◌, ℕ, get_or}
use Rattle.std.proofs.lemmas.List.FromFn.{fill_by_all}
use Rattle.vp_lanes.proofs.Shape.{lanes_of, mapped, zipped, splatted, lane_is, each_lane, length-ByLane}
use Rattle.vp_lanes.proofs.Bytes.{byte_lane}
use mir.Syntax.{w8, w16, shr, cast, unsigned, wrap_add, wrap_mul}
use borrow.Rule.Simd.Lanes.{act1, act2, Asks1}
use borrow.Table.Row.{s_int}
use Rattle.vp_intra.specs.Sub.{avg3}
use Rattle.vp_intra.proofs.MeanLemmas.{mean3_small, mean3_is}
use Rattle.vp_intra.proofs.means.mean3.Goals as goal

pub overflow_cast-result-3 : goal.overflow_cast-result-3
overflow_cast-result-3 c =
    let x = mapped (act1 (cast unsigned unsigned w16) (s_int w8) (s_int w16)) (lanes_of 0 16 c.args.x c.fits-x.0) in
    let y = mapped (act1 (cast unsigned unsigned w16) (s_int w8) (s_int w16)) (lanes_of 0 16 c.args.y c.fits-y.0) in
    let z = mapped (act1 (cast unsigned unsigned w16) (s_int w8) (s_int w16)) (lanes_of 0 16 c.args.z c.fits-z.0) in
    let m = zipped (act2 wrap_mul (s_int w16) (s_int w16) (s_int w16)) y (splatted 16 2) in
    let s = zipped (act2 wrap_add (s_int w16) (s_int w16) (s_int w16)) (zipped (act2 wrap_add (s_int w16) (s_int w16) (s_int w16)) x m) z in
    let t = zipped (act2 wrap_add (s_int w16) (s_int w16) (s_int w16)) s (splatted 16 2) in
    each_lane (Asks1 (cast unsigned unsigned w8) (s_int w16)) (zipped (act2 (shr unsigned) (s_int w16) (s_int w16) (s_int w16)) t (splatted 16 2))
    (λ j h. record { fits = mean3_small _ _ _ (byte_lane _ c.fits-x j h) (byte_lane _ c.fits-y j h) (byte_lane _ c.fits-z j h) })

pub returns : goal.returns
returns c =
    let x = mapped (act1 (cast unsigned unsigned w16) (s_int w8) (s_int w16)) (lanes_of 0 16 c.args.x c.fits-x.0) in
    let y = mapped (act1 (cast unsigned unsigned w16) (s_int w8) (s_int w16)) (lanes_of 0 16 c.args.y c.fits-y.0) in
    let z = mapped (act1 (cast unsigned unsigned w16) (s_int w8) (s_int w16)) (lanes_of 0 16 c.args.z c.fits-z.0) in
    let m = zipped (act2 wrap_mul (s_int w16) (s_int w16) (s_int w16)) y (splatted 16 2) in
    let s = zipped (act2 wrap_add (s_int w16) (s_int w16) (s_int w16)) (zipped (act2 wrap_add (s_int w16) (s_int w16) (s_int w16)) x m) z in
    let t = zipped (act2 wrap_add (s_int w16) (s_int w16) (s_int w16)) s (splatted 16 2) in
    let r = mapped (act1 (cast unsigned unsigned w8) (s_int w16) (s_int w8)) (zipped (act2 (shr unsigned) (s_int w16) (s_int w16) (s_int w16)) t (splatted 16 2)) in
    fill_by_all (λ (j : ℕ). avg3 (get_or c.args.x j 0) (get_or c.args.y j 0) (get_or c.args.z j 0)) _ 16 0 (length-ByLane r)
    (λ j h. lane_is 0 r j h
    ∙ mean3_is (get_or c.args.x j 0) (get_or c.args.y j 0) (get_or c.args.z j 0) (byte_lane _ c.fits-x j h) (byte_lane _ c.fits-y j h) (byte_lane _ c.fits-z j h))
