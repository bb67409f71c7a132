use Rattle.std.proofs.Common.{◌∙◌, ℕ, ℤ, ◌+◌, ◌*◌, ◌/◌, ◌%◌, List, ap, subst, refl}
use Rattle.vp_search.specs.Differences.{sum_of_differences, strided_block, block16}
use Rattle.vp_search.specs.Columns.{IsWithin, filtered}
use Rattle.vp_search.proofs.ColumnLemmas.{filtered_cost, whole_row_cost}
use Rattle.vp_search.proofs.columns.cost_of_row.Goals as goal

pub returns : goal.returns
returns c p place whole column are =
    let down : ℕ = c.args.down in
    subst (IsWithin c.args.limit c.add_cost.new.sum)
    (ap (λ (weights : List ℤ). sum_of_differences 16 16 (block16 c.args.block.now) (λ r j. filtered weights c.args.rows.now (down / 4 + r) j)) c.of.ensures
    ∙ filtered_cost (block16 c.args.block.now) p place whole column down (down / 4) (2 * (down % 4)) c.args.rows.now c.requires refl refl are)
    c.add_cost.ensures

pub returns-then-eighths-eq0 : goal.returns-then-eighths-eq0
returns-then-eighths-eq0 c p place whole column are =
    let down : ℕ = c.args.down in
    let block : List ℕ = c.args.block.now in
    subst (IsWithin c.args.limit c.sad_up_to.result)
    (ap (λ (rows : List ℕ). sum_of_differences 16 16 (strided_block block 0 16) (strided_block rows (16 * (down / 4 + 2)) 16)) c.rows.ensures
    ∙ whole_row_cost block p place whole column down (down / 4) c.args.rows.now c.requires refl c.if-eighths-eq0.true are)
    c.sad_up_to.ensures.within
