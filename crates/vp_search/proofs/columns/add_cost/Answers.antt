use Rattle.std.proofs.Common.{◌∙◌, ℕ, ◌+◌, ◌*◌, ap₂, sym, arith}
use Rattle.vp_search.specs.Differences.{block16}
use Rattle.vp_search.specs.Columns.{filtered}
use Rattle.vp_search.proofs.SumLemmas.{sum_below-none}
use Rattle.vp_search.proofs.ColumnLemmas.{rows_more, rows_of_all}
use Rattle.vp_search.proofs.columns.add_cost.Goals as goal

pub loop-i-init : goal.loop-i-init
loop-i-init c = record {
  sum = c.requires.none ∙ sym (sum_below-none _);
  bound = omega (arith, c.requires.none);
}

pub loop-i-preserved : goal.loop-i-preserved
loop-i-preserved c =
    record {
      sum = ap₂ (λ x y. x + y) c.loop-i.invariant.sum c.four_filtered.ensures.value
          ∙ rows_more c.loop-i.i (block16 c.args.block.now) (λ r j. filtered c.args.filter.now c.args.rows.now (c.args.skip + r) j);
      bound = omega arith;
    }

pub returns-then-sum-limit : goal.returns-then-sum-limit
returns-then-sum-limit c =
    let f : ℕ → ℕ → ℕ = block16 c.args.block.now in
    let g : ℕ → ℕ → ℕ = λ (r j : ℕ). filtered c.args.filter.now c.args.rows.now (c.args.skip + r) j in
    let sum = ap₂ (λ x y. x + y) c.loop-i.invariant.sum c.four_filtered.ensures.value ∙ rows_more c.loop-i.i f g in
    let all = rows_of_all (4 * (c.loop-i.i + 1)) f g (omega arith) in
    (λ h. absurd (omega arith), λ h. omega (arith, sum, all))
