use Rattle.std.proofs.Common.{ap, ◌∙◌, ◌≡◌, pos, ◌+ℤ◌, ◌*ℤ◌, ℤ}
use lib.Signed.{shr_z as floor_div}
use Rattle.vp_loop.specs.LineSteps.{clamp8, weighted_filter_value}
use Rattle.vp_loop.proofs.Shift.{same_is}
use Rattle.vp_loop.proofs.FilterValueLemmas.{up_by, down_by}
use Rattle.vp_loop.proofs.lines.macroblock_edge_filtered.Goals as goal

pub returns : goal.returns
returns c =
    let l = c.args.line in
    let a = same_is _ c.filter_value-w.ensures.range ∙ c.filter_value-w.ensures.value in
    let weighted = λ (k z : ℤ). clamp8 (floor_div (z *ℤ k +ℤ pos 63) 128) in
    let near : c.weighted_filter_value-near.result ≡ weighted_filter_value (pos 27) l = c.weighted_filter_value-near.ensures.value ∙ ap (weighted (pos 27)) a in
    let middle : c.weighted_filter_value-middle.result ≡ weighted_filter_value (pos 18) l = c.weighted_filter_value-middle.ensures.value ∙ ap (weighted (pos 18)) a in
    let far : c.weighted_filter_value-far.result ≡ weighted_filter_value (pos 9) l = c.weighted_filter_value-far.ensures.value ∙ ap (weighted (pos 9)) a in
    let p2 = up_by _ _ _ _ c.raised.ensures c.weighted_filter_value-far.ensures.range far in
    let p1 = up_by _ _ _ _ c.raised-2.ensures c.weighted_filter_value-middle.ensures.range middle in
    let p0 = up_by _ _ _ _ c.raised-3.ensures c.weighted_filter_value-near.ensures.range near in
    let q0 = down_by _ _ _ _ c.lowered.ensures c.weighted_filter_value-near.ensures.range near in
    let q1 = down_by _ _ _ _ c.lowered-2.ensures c.weighted_filter_value-middle.ensures.range middle in
    let q2 = down_by _ _ _ _ c.lowered-3.ensures c.weighted_filter_value-far.ensures.range far in
    rw c.if-high.false (λ i. record l { p2 = p2 i; p1 = p1 i; p0 = p0 i; q0 = q0 i; q1 = q1 i; q2 = q2 i })
