use Rattle.std.proofs.Common.{◌≡◌, ◌∙◌, ◌+◌, ◌/◌, ◌^◌, ◌<◌, get_or, ap, sym, subst}
use Rattle.vp_lanes.proofs.Shape.{unsigned_lanes, lanes_of, mapped, zipped, splatted, lane_is, each_lane}
use mir.Syntax.{w8, w16, unsigned, cast, shr}
use borrow.Rule.Simd.Lanes.{act1, act2, Asks1}
use borrow.Table.Row.{s_int}
use Rattle.vp_scale.proofs.LaneLemmas.{mean_fits}
use Rattle.vp_scale.proofs.lanes.rounded_means.Goals as goal

pub overflow_cast-result : goal.overflow_cast-result
overflow_cast-result c =
    let l = unsigned_lanes w16 8 c.plus.result _ c.plus.type_inv in
    let s = zipped (act2 (shr unsigned) (s_int w16) (s_int w16) (s_int w16)) (lanes_of 0 8 c.plus.result l.0) (splatted 8 c.args.shift) in
    each_lane (Asks1 (cast unsigned unsigned w8) (s_int w16)) s (λ j h.
    let e : get_or c.plus.result j 0 ≡ get_or c.args.sums j 0 + c.args.half = c.plus.ensures j h ∙ ap (λ n. get_or c.args.sums j 0 + n) (lane_is 0 (splatted 8 c.args.half) j h) in
    record { fits = subst (λ n. n / 2 ^ c.args.shift < 256) (sym e) (mean_fits c.args.shift (get_or c.args.sums j 0) c.args.half c.requires.shift c.requires.count (c.requires.bytes j h)) })

pub returns-clause-value : goal.returns-clause-value
returns-clause-value c j h =
    let l = unsigned_lanes w16 8 c.plus.result _ c.plus.type_inv in
    let s = zipped (act2 (shr unsigned) (s_int w16) (s_int w16) (s_int w16)) (lanes_of 0 8 c.plus.result l.0) (splatted 8 c.args.shift) in
    let e : get_or c.plus.result j 0 ≡ get_or c.args.sums j 0 + c.args.half = c.plus.ensures j h ∙ ap (λ n. get_or c.args.sums j 0 + n) (lane_is 0 (splatted 8 c.args.half) j h) in
    lane_is 0 (mapped (act1 (cast unsigned unsigned w8) (s_int w16) (s_int w8)) s) j h
    ∙ (λ i. e i / sym c.requires.count i)
