use Rattle.std.proofs.Common.{◌≡◌, ◌∙◌, Bool, cond, ◌&&◌, ap, ap₂, refl, pos}
use Rattle.vp_lanes.specs.Lane.{biased}
use Rattle.vp_loop.specs.LineSteps.{is_small_step, is_high, subblock_edge_filtered}
use Rattle.vp_loop.specs.Lanes.{line_of}
use Rattle.vp_loop.proofs.LaneLines.{lane_subblock, subblock_none, subblock_is}
use Rattle.vp_loop.proofs.NearLemmas.{no_eighth}
use Rattle.vp_loop.proofs.lanes.subblock_filter.Goals as goal

pub returns : goal.returns
returns c j h =
    let l = line_of c.args.l j in
    let w = c.masked_filter_value-w in
    let z = biased 128 w.result j in
    let high = is_high c.args.threshold l in
    let is_h = c.edge_variance-variance.ensures j c.args.threshold h in
    let all : line_of (record c.args.l { p1 = c.raised.result; p0 = c.raised-2.result; q0 = c.lowered.result; q1 = c.lowered-2.result }) j ≡ lane_subblock high z l =
    simp (c.raised.ensures.value j h, c.raised-2.ensures.value j h, c.lowered.ensures.value j h, c.lowered-2.ensures.value j h) (
    simp (c.where_low-a.ensures j h, is_h, c.half.ensures j h, c.eighth-f1.ensures.value j h, c.eighth-f2.ensures.value j h) refl) in
    let taps = c.where_high-taps.ensures j h ∙ ap₂ (λ b z. cond b z (pos 0)) is_h (c.difference.ensures j h) in
    all
    ∙ subblock_is _ high z l (w.ensures.bytes j h) (w.ensures.value j high h taps)
    ∙ ap (λ (m : Bool). cond (is_small_step c.args.limit l && m) (subblock_edge_filtered high l) l) (c.most_apart-most.ensures j c.args.interior h)

pub returns-then-is_near_zero : goal.returns-then-is_near_zero
returns-then-is_near_zero c j h =
    let l = line_of c.args.l j in
    let w = c.masked_filter_value-w in
    let z = biased 128 w.result j in
    let high = is_high c.args.threshold l in
    let taps = c.where_high-taps.ensures j h ∙ ap₂ (λ b z. cond b z (pos 0)) (c.edge_variance-variance.ensures j c.args.threshold h) (c.difference.ensures j h) in
    subblock_none high z l (w.ensures.bytes j h) (no_eighth _ (c.is_near_zero.ensures c.if-is_near_zero.true j h))
    ∙ subblock_is _ high z l (w.ensures.bytes j h) (w.ensures.value j high h taps)
    ∙ ap (λ (m : Bool). cond (is_small_step c.args.limit l && m) (subblock_edge_filtered high l) l) (c.most_apart-most.ensures j c.args.interior h)
