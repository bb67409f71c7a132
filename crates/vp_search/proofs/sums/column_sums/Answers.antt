use Rattle.std.proofs.Common.{◌≡◌, ℕ, ◌+◌, ◌*◌, get_or, ap, arith}
use Rattle.vp_search.specs.Bounds.{column_sum}
use Rattle.vp_search.proofs.SumLanes.{eight_are}
use Rattle.vp_search.proofs.sums.column_sums.Goals as goal

pub returns : goal.returns
unfolding column_sum
returns c j h =
    let at : ℕ = c.args.at in let s : ℕ = c.args.step in
    eight_are (λ r. get_or c.args.pixels.now (at + j + r * s) 0) (λ r. get_or c.args.pixels.now (at + 4 * s + j + r * s) 0) _ _ _
    (λ k l. let e : at + 4 * s + j + k * s ≡ at + j + (4 + k) * s = omega arith in ap (λ (i : ℕ). get_or c.args.pixels.now i 0) e)
    (c.four_pixels-upper.ensures j h) (c.four_pixels-lower.ensures j h) (c.plus.ensures j h)
