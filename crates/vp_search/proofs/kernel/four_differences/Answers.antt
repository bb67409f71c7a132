use Rattle.std.proofs.Common.{◌*◌, ◌≤◌, get_or, ◌∙◌, arith}
use Rattle.std.specs.Int.{abs_diff}
use Rattle.vp_search.specs.Sums.{sum_below}
use Rattle.vp_search.proofs.SumLemmas.{sum_below-bound}
use Rattle.vp_search.proofs.RowLemmas.{lane_beside, four_sums}
use Rattle.vp_search.proofs.kernel.four_differences.Goals as goal

pub returns-clause-value : goal.returns-clause-value
returns-clause-value c f g a b =
    c.total.ensures.value
    ∙ four_sums (λ r j. abs_diff (f r j) (g r j)) c.both.result (λ j h.
    let e = c.both.ensures j h in let u = c.both-upper.ensures j h in let l = c.both-lower.ensures j h in
    let p = lane_beside _ _ _ (f 0) (g 0) c.apart.ensures.value a.first b.first j h in
    let q = lane_beside _ _ _ (f 1) (g 1) c.apart-2.ensures.value a.second b.second j h in
    let r = lane_beside _ _ _ (f 2) (g 2) c.apart-3.ensures.value a.third b.third j h in
    let s = lane_beside _ _ _ (f 3) (g 3) c.apart-4.ensures.value a.fourth b.fourth j h in
    omega arith)

pub returns-clause-bound : goal.returns-clause-bound
returns-clause-bound c =
    let s : sum_below 16 (λ j. get_or c.both.result j 0) ≤ 16 * 1020 = sum_below-bound 16 1020 (λ j. get_or c.both.result j 0) (λ j h.
    let g = c.both.ensures j h in
    let e = c.both-upper.ensures j h in let x = c.apart.ensures.range j h in let y = c.apart-2.ensures.range j h in
    let f = c.both-lower.ensures j h in let z = c.apart-3.ensures.range j h in let w = c.apart-4.ensures.range j h in omega arith) in
    omega (arith, c.total.ensures.value)
