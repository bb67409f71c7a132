use Rattle.std.proofs.Common.{◌∙◌, ap, ℕ, pos, ◌-ℤ◌}
use Rattle.vp_lanes.proofs.Shape.{lanes_of, mapped, zipped, splatted, lane_is, each_lane}
use mir.Syntax.{w8, w16, shr, cast, unsigned, wrap_add, wrap_mul}
use borrow.Rule.Simd.Lanes.{act1, act2}
use borrow.Table.Row.{s_int}
use borrow.Rule.Simd.Lanes.{Asks1}
use Rattle.vp_lanes.proofs.Bytes.{byte_lane, shared_small, share_is}
use Rattle.vp_lanes.proofs.steps.weighted_filter_value.Goals as goal

pub overflow_cast-result-3 : goal.overflow_cast-result-3
overflow_cast-result-3 c =
    let w = mapped (act1 (cast unsigned unsigned w16) (s_int w8) (s_int w16)) (lanes_of 0 16 c.args.w c.fits-w.0) in
    let m = zipped (act2 wrap_mul (s_int w16) (s_int w16) (s_int w16)) w (splatted 16 c.args.k) in
    let s = zipped (act2 wrap_add (s_int w16) (s_int w16) (s_int w16)) m (splatted 16 63) in
    each_lane (Asks1 (cast unsigned unsigned w8) (s_int w16)) (zipped (act2 (shr unsigned) (s_int w16) (s_int w16) (s_int w16)) s (splatted 16 7))
    (λ j h. record { fits = shared_small _ c.args.k (byte_lane _ c.fits-w j h) c.requires })

pub returns : goal.returns
returns c j h =
    let w = mapped (act1 (cast unsigned unsigned w16) (s_int w8) (s_int w16)) (lanes_of 0 16 c.args.w c.fits-w.0) in
    let m = zipped (act2 wrap_mul (s_int w16) (s_int w16) (s_int w16)) w (splatted 16 c.args.k) in
    let s = zipped (act2 wrap_add (s_int w16) (s_int w16) (s_int w16)) m (splatted 16 63) in
    let t = mapped (act1 (cast unsigned unsigned w8) (s_int w16) (s_int w8)) (zipped (act2 (shr unsigned) (s_int w16) (s_int w16) (s_int w16)) s (splatted 16 7)) in
    ap (λ (n : ℕ). pos n -ℤ pos c.args.k) (lane_is 0 t j h) ∙ share_is _ c.args.k (byte_lane _ c.fits-w j h) c.requires
