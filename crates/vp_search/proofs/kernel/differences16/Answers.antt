use Rattle.std.proofs.Common.{◌≤◌, ◌*◌, get_or, ◌∙◌, arith}
use Rattle.std.specs.Int.{abs_diff}
use Rattle.vp_search.specs.Sums.{sum_below}
use Rattle.vp_search.proofs.SumLemmas.{sum_below-same, sum_below-bound}
use Rattle.vp_search.proofs.kernel.differences16.Goals as goal

pub returns-clause-value : goal.returns-clause-value
returns-clause-value c =
    c.total.ensures.value
    ∙ sum_below-same 16 (λ j. get_or c.apart.result j 0) (λ j. abs_diff (get_or c.args.a.now j 0) (get_or c.args.b.now j 0)) c.apart.ensures.value

pub returns-clause-bound : goal.returns-clause-bound
returns-clause-bound c =
    let s : sum_below 16 (λ j. get_or c.apart.result j 0) ≤ 16 * 255 = sum_below-bound 16 255 (λ j. get_or c.apart.result j 0) c.apart.ensures.range in
    omega (arith, c.total.ensures.value)
