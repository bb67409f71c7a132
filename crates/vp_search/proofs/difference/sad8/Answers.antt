use Rattle.std.proofs.Common.{ℕ, get_or, sym, ◌∙◌}
use Rattle.std.specs.Int.{abs_diff}
use Rattle.vp_search.specs.Sums.{sum_below}
use Rattle.vp_search.specs.Differences.{strided_block}
use Rattle.vp_search.proofs.SumLemmas.{sum_below-rows}
use Rattle.vp_search.proofs.difference.sad8.Goals as goal

pub returns-clause-value : goal.returns-clause-value
unfolding sum_below
returns-clause-value c =
    let a = c.args.a.now in let b = c.args.b.now in
    let apart = λ (i : ℕ). abs_diff (get_or a i 0) (get_or b i 0) in
    c.four_differences.ensures.value (strided_block a 0 16) (strided_block b 0 16) c.load_rows.ensures c.load_rows-2.ensures
    ∙ sym (sum_below-rows 4 16 apart) ∙ sum_below-rows 8 8 apart
