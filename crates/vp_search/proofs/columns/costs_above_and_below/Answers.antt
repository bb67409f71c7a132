use Rattle.std.proofs.Common.{◌≡◌, ℕ, ℤ, pos, ◌+◌, ◌-◌, ◌+ℤ◌, ◌*ℤ◌, List, ap, sym, subst, ◌∙◌, arith}
use Rattle.vp_search.specs.declared.vector.QuarterVector.{QuarterVector}
use Rattle.vp_search.specs.Differences.{block16}
use Rattle.vp_search.specs.Blocks.{quarter_cost}
use Rattle.vp_search.specs.Columns.{IsWithin, filtered}
use Rattle.vp_search.proofs.ColumnLemmas.{half_cost}
use Rattle.vp_search.proofs.columns.costs_above_and_below.Goals as goal

-- a vector some quarter pixels below whole pixels
abbrev vector_below : ℤ → ℤ → ℕ → QuarterVector
vector_below whole column down = record { row = pos 4 *ℤ whole +ℤ pos down; column = column }

pub returns-then-distance-eq1-clause-above : goal.returns-then-distance-eq1-clause-above
returns-then-distance-eq1-clause-above c p place whole column are =
    subst (λ (d : ℕ). IsWithin c.args.limit c.cost_of_row.result (quarter_cost (block16 c.args.block.now) p place (vector_below whole column (c.args.down - d))))
    (sym c.if-distance-eq1.true) (c.cost_of_row.ensures p place whole column are)

pub returns-then-distance-eq1-clause-below : goal.returns-then-distance-eq1-clause-below
returns-then-distance-eq1-clause-below c p place whole column are =
    subst (λ (d : ℕ). IsWithin c.args.limit c.cost_of_row-then-distance-eq1.result (quarter_cost (block16 c.args.block.now) p place (vector_below whole column (c.args.down + d))))
    (sym c.if-distance-eq1.true) (c.cost_of_row-then-distance-eq1.ensures p place whole column are)

pub returns-clause-above : goal.returns-clause-above
returns-clause-above c p place whole column are =
    let rows : List ℕ = c.args.rows.now in
    let half = c.requires.halves in
    let e : c.args.down - c.args.distance ≡ 2 = omega (arith, half) in
    subst (IsWithin c.args.limit c.sad_up_to.result)
    (half_cost c.args.block.now p place whole column (c.args.down - c.args.distance) 0 0 rows c.filtered_rows-both.result (omega arith) (omega arith) (omega arith) (omega arith) are
    (λ r k rin kin. c.filtered_rows-both.ensures r k rin kin ∙ ap (λ (weights : List ℤ). filtered weights rows r k) c.of.ensures))
    c.sad_up_to.ensures.within

pub returns-clause-below : goal.returns-clause-below
returns-clause-below c p place whole column are =
    let rows : List ℕ = c.args.rows.now in
    let half = c.requires.halves in
    let e : c.args.down + c.args.distance ≡ 6 = omega (arith, half) in
    subst (IsWithin c.args.limit c.sad_up_to-2.result)
    (half_cost c.args.block.now p place whole column (c.args.down + c.args.distance) 1 16 rows c.filtered_rows-both.result (omega arith) (omega arith) (omega arith) (omega arith) are
    (λ r k rin kin. c.filtered_rows-both.ensures r k rin kin ∙ ap (λ (weights : List ℤ). filtered weights rows r k) c.of.ensures))
    c.sad_up_to-2.ensures.within
