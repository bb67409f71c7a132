use Rattle.std.proofs.Common.{◌≡◌, ◌∙◌, Bool, cond, ap, refl, true}
use Rattle.vp_lanes.specs.Lane.{biased}
use Rattle.vp_loop.specs.LineSteps.{is_small_step, common_adjusted}
use Rattle.vp_loop.specs.Lanes.{line_of}
use Rattle.vp_loop.proofs.LaneLines.{all_smooth, lane_simple, simple_none, simple_is}
use Rattle.vp_loop.proofs.NearLemmas.{no_eighth}
use Rattle.vp_loop.proofs.lanes.simple_filter.Goals as goal

pub returns : goal.returns
returns c j h =
    let l = line_of c.args.l j in
    let w = c.masked_filter_value-w in
    let all : line_of (record c.args.l { p0 = c.raised.result; q0 = c.lowered.result }) j ≡ lane_simple (biased 128 w.result j) l =
    simp (c.raised.ensures.value j h, c.lowered.ensures.value j h, c.eighth-f1.ensures.value j h, c.eighth-f2.ensures.value j h) refl in
    all
    ∙ simple_is _ (biased 128 w.result j) l (w.ensures.bytes j h) (w.ensures.value j true h (c.difference-taps.ensures j h))
    ∙ ap (λ (m : Bool). cond m (common_adjusted true l) l) (all_smooth (is_small_step c.args.limit l) l.p0 (c.raised.ensures.bytes j h))

pub returns-then-is_near_zero : goal.returns-then-is_near_zero
returns-then-is_near_zero c j h =
    let l = line_of c.args.l j in
    let w = c.masked_filter_value-w in
    let bytes = w.ensures.bytes j h in
    simple_none (biased 128 w.result j) l bytes (no_eighth _ (c.is_near_zero.ensures c.if-is_near_zero.true j h))
    ∙ simple_is _ (biased 128 w.result j) l bytes (w.ensures.value j true h (c.difference-taps.ensures j h))
    ∙ ap (λ (m : Bool). cond m (common_adjusted true l) l) (all_smooth (is_small_step c.args.limit l) l.p0 bytes.p0)
