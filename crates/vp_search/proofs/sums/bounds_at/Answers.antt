use Rattle.std.proofs.Common.{◌≡◌, ℕ, ◌+◌, ◌*◌, ◌∙◌, get_or, ap, arith}
use Rattle.std.specs.Int.{abs_diff}
use Rattle.vp_search.specs.declared.window.TheConstants.{WINDOW_WIDTH}
use Rattle.vp_search.specs.Bounds.{bound_of}
use Rattle.vp_search.proofs.SumLanes.{least_sums}
use Rattle.vp_search.proofs.sums.bounds_at.Goals as goal

pub returns : goal.returns
unfolding bound_of
returns c j h =
    let at : ℕ = c.args.at in
    let moved : (s x y : ℕ) → x ≡ y → abs_diff s (get_or c.args.sums.now x 0) ≡ abs_diff s (get_or c.args.sums.now y 0) = λ s x y e. ap (λ (i : ℕ). abs_diff s (get_or c.args.sums.now i 0)) e in
    least_sums 65535 _ _ _ _ _ _ _ _ _ _ _
    (c.gaps.ensures j h)
    (c.gaps-2.ensures j h ∙ moved _ _ _ (let e : at + 8 + j ≡ at + j + 8 = omega arith in e))
    (c.gaps-3.ensures j h ∙ moved _ _ _ (let e : at + 8 * WINDOW_WIDTH + j ≡ at + j + 8 * WINDOW_WIDTH = omega arith in e))
    (c.gaps-4.ensures j h ∙ moved _ _ _ (let e : at + 8 * WINDOW_WIDTH + 8 + j ≡ at + j + 8 * WINDOW_WIDTH + 8 = omega arith in e))
    (c.plus.ensures j h) (c.plus-2.ensures j h) (c.plus-3.ensures j h)
