use Rattle.std.proofs.Common.{◌≡◌, ℕ, ◌+◌, get_or, ap, arith}
use Rattle.vp_search.specs.Bounds.{row_sum}
use Rattle.vp_search.proofs.SumLanes.{eight_are}
use Rattle.vp_search.proofs.sums.row_sums.Goals as goal

pub returns : goal.returns
unfolding row_sum
returns c j h =
    let at : ℕ = c.args.at in
    eight_are (λ k. get_or c.args.columns.now (at + j + k) 0) (λ k. get_or c.args.columns.now (at + 4 + j + k) 0) _ _ _
    (λ k l. let e : at + 4 + j + k ≡ at + j + (4 + k) = omega arith in ap (λ (i : ℕ). get_or c.args.columns.now i 0) e)
    (c.four_columns-left.ensures j h) (c.four_columns-right.ensures j h) (c.plus.ensures j h)
