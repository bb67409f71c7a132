use Rattle.std.proofs.Common.{◌≡◌, ◌∙◌, ℕ, ◌+◌, ◌*◌, List, get_or, ap, refl, subst, arith}
use Rattle.vp_inter.specs.Filter.{filter_six}
use Rattle.vp_search.specs.Differences.{strided_block, block16}
use Rattle.vp_search.specs.Rows.{HasRows}
use Rattle.vp_search.specs.Columns.{filtered}
use Rattle.vp_search.proofs.SumLemmas.{sum_of_differences-same}
use Rattle.vp_search.proofs.columns.four_filtered.Goals as goal

pub returns-clause-value : goal.returns-clause-value
returns-clause-value c =
    let i : ℕ = c.args.i in
    let skip : ℕ = c.args.skip in
    let rows : List ℕ = c.args.rows.now in
    let block : List ℕ = c.args.block.now in
    let g : ℕ → ℕ → ℕ = λ (r j : ℕ). filtered c.args.filter.now rows (skip + (4 * i + r)) j in
    let moved : (a b j : ℕ) → a ≡ b → filtered c.args.filter.now rows a j ≡ filtered c.args.filter.now rows b j =
    λ a b j e. ap (λ (n : ℕ). filter_six c.args.filter.now (λ k. get_or rows ((n + k) * 16 + j) 0)) e in
    c.four_differences.ensures.value (strided_block block (64 * i) 16) g
    (subst (λ (b : List ℕ). HasRows (strided_block b (64 * i) 16) c.load_rows.result) c.pixels.ensures c.load_rows.ensures)
    (record {
      first = λ j h. c.filtered_row.ensures j h ∙ moved (skip + 4 * i) (skip + (4 * i + 0)) j (omega arith);
      second = λ j h. c.filtered_row-2.ensures j h ∙ moved (skip + 4 * i + 1) (skip + (4 * i + 1)) j (omega arith);
      third = λ j h. c.filtered_row-3.ensures j h ∙ moved (skip + 4 * i + 2) (skip + (4 * i + 2)) j (omega arith);
      fourth = λ j h. c.filtered_row-4.ensures j h ∙ moved (skip + 4 * i + 3) (skip + (4 * i + 3)) j (omega arith);
    })
    ∙ sum_of_differences-same 4 16 (strided_block block (64 * i) 16) (λ r k. block16 block (4 * i + r) k) g g
    (λ r k h l. ap (λ (n : ℕ). get_or block n 0) (let e : 64 * i + r * 16 + k ≡ (4 * i + r) * 16 + k = omega arith in e)) (λ r k h l. refl)
