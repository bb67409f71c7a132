use Rattle.std.proofs.Common.{◌≡◌, ◌∙◌, Bool, true, cond, ◌&&◌, nat_lt, ap, ap₂, refl, slice_index}
use Rattle.vp_lanes.specs.Lane.{biased}
use Rattle.vp_loop.specs.LineSteps.{is_small_step, is_high, macroblock_edge_filtered}
use Rattle.vp_loop.specs.Lanes.{line_of}
use Rattle.vp_loop.proofs.LaneLines.{lane_macroblock, macroblock_none, macroblock_is}
use Rattle.vp_loop.proofs.NearLemmas.{no_share}
use Rattle.vp_loop.proofs.lanes.macroblock_filter.Goals as goal

pub returns : goal.returns
returns c j h =
    let l = line_of c.args.l j in
    let w = c.masked_filter_value-w in
    let z = biased 128 w.result j in
    let high = nat_lt c.args.threshold (slice_index c.edge_variance-variance.result j) in
    let all : line_of (record { p3 = c.args.l.p3; p2 = c.raised.result; p1 = c.raised-2.result; p0 = c.raised-3.result; q0 = c.lowered.result; q1 = c.lowered-2.result; q2 = c.lowered-3.result; q3 = c.args.l.q3 }) j ≡ lane_macroblock high z l =
    simp (c.raised.ensures.value j h, c.raised-2.ensures.value j h, c.raised-3.ensures.value j h, c.lowered.ensures.value j h, c.lowered-2.ensures.value j h, c.lowered-3.ensures.value j h) (
    simp (c.either-u0.ensures j h, c.either-v0.ensures j h, c.where_low-a1.ensures j h, c.where_low-a2.ensures j h) (
    simp (c.weighted_filter_value-t0.ensures j h, c.weighted_filter_value-t1.ensures j h, c.weighted_filter_value-t2.ensures j h, c.eighth-f1.ensures.value j h, c.eighth-f2.ensures.value j h) refl)) in
    all
    ∙ macroblock_is _ high z l (w.ensures.bytes j h) (w.ensures.value j true h (c.difference-taps.ensures j h))
    ∙ ap₂ (λ (m high : Bool). cond (is_small_step c.args.limit l && m) (macroblock_edge_filtered high l) l) (c.most_apart-most.ensures j c.args.interior h) (c.edge_variance-variance.ensures j c.args.threshold h)

pub returns-then-is_near_zero : goal.returns-then-is_near_zero
returns-then-is_near_zero c j h =
    let l = line_of c.args.l j in
    let w = c.masked_filter_value-w in
    let z = biased 128 w.result j in
    let high = is_high c.args.threshold l in
    let none = no_share (slice_index w.result j) (c.is_near_zero.ensures c.if-is_near_zero.true j h) in
    macroblock_none high z l (w.ensures.bytes j h) none.0 none.1
    ∙ macroblock_is _ high z l (w.ensures.bytes j h) (w.ensures.value j true h (c.difference-taps.ensures j h))
    ∙ ap (λ (m : Bool). cond (is_small_step c.args.limit l && m) (macroblock_edge_filtered high l) l) (c.most_apart-most.ensures j c.args.interior h)
