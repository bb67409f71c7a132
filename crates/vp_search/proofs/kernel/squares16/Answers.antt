use Rattle.std.proofs.Common.{◌+◌, ◌*◌, ◌≤◌, get_or, ap, refl, ◌∙◌, arith}
use Rattle.vp_search.specs.Differences.{squared_difference}
use Rattle.vp_search.specs.Sums.{sum_below}
use Rattle.vp_search.proofs.SumLemmas.{sum_below-same, sum_below-bound}
use Rattle.vp_search.proofs.RowLemmas.{lane_at, lane_beside}
use Rattle.vp_search.proofs.kernel.squares16.Goals as goal

pub returns-clause-value : goal.returns-clause-value
returns-clause-value c =
    let a = c.args.a.now in let b = c.args.b.now in let at = c.args.at in
    c.total.ensures.value
    ∙ sum_below-same 16 (λ j. get_or c.squared.result j 0) (λ j. squared_difference a b (at + j))
    (λ j h. c.squared.ensures.value j h
    ∙ ap (λ n. n * n) (lane_beside _ _ _ (λ k. get_or a (at + k) 0) (λ k. get_or b (at + k) 0) c.apart.ensures.value
    (lane_at c.load16.result a at at c.load16.ensures refl) (lane_at c.load16-2.result b at at c.load16-2.ensures refl) j h))

pub returns-clause-bound : goal.returns-clause-bound
returns-clause-bound c =
    let s : sum_below 16 (λ j. get_or c.squared.result j 0) ≤ 16 * 65025 = sum_below-bound 16 65025 (λ j. get_or c.squared.result j 0) c.squared.ensures.range in
    omega (arith, c.total.ensures.value)
