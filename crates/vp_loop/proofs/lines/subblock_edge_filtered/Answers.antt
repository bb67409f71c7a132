use Rattle.std.proofs.Common.{◌∙◌}
use Rattle.vp_loop.proofs.Shift.{same_is}
use Rattle.vp_loop.proofs.FilterValueLemmas.{up_by, down_by}
use Rattle.vp_loop.proofs.lines.subblock_edge_filtered.Goals as goal

pub returns : goal.returns
returns c =
    let a = same_is _ c.filter_value-w.ensures.range ∙ c.filter_value-w.ensures.value in
    let half = c.outer_tap_adjustment-half.ensures in
    let p = up_by _ _ _ _ c.raised.ensures half.range (half.value c.args.line a) in
    let q = down_by _ _ _ _ c.lowered.ensures half.range (half.value c.args.line a) in
    λ i. record (c.common_adjust_by.ensures c.args.high a i) { p1 = p i; q1 = q i }
