use Rattle.std.proofs.Common.{◌≡◌, ℕ, ◌+◌, ◌*◌, ◌<◌, arith, subst}
use Rattle.vp_search.specs.Window.{vector_at}
use Rattle.vp_search.specs.Search.{cost_in, AreAbove}
use Rattle.vp_search.proofs.SearchLemmas.{first_rows_below, one_more}
use Rattle.vp_search.proofs.search_window.SearchWindow.next_pair.Goals as goal

pub loop-number-preserved : goal.loop-number-preserved
loop-number-preserved c =
    let w = c.args.self.now in let i = c.args.row in let limit = c.args.limit in
    let n : ℕ = c.loop-number.number in let from : ℕ = 2 * c.args.from in
    let one : limit < cost_in w (vector_at w.range i (2 * n)) = omega (arith, first_rows_below w i (2 * n), c.first_rows-one.ensures.value) in
    let two : limit < cost_in w (vector_at w.range i (2 * n + 1)) = omega (arith, first_rows_below w i (2 * n + 1), c.first_rows-two.ensures.value) in
    let e : 2 * n + 1 + 1 ≡ 2 * (n + 1) = omega arith in
    subst (λ (k : ℕ). AreAbove w limit i from k) e
    (one_more w limit i from (2 * n + 1) (one_more w limit i from (2 * n) c.loop-number.invariant one) two)
