use Rattle.std.proofs.Common.{◌≡◌, ℕ, ◌+◌, ◌*◌, ◌<◌, ◌≤◌, get_or, length}
use Rattle.vp_search.specs.Bounds.{row_sum}
use Rattle.vp_search.specs.Coarse.{AreCoarse}
use Rattle.vp_search.proofs.sums.put_squares.Given as goal

abbrev pub invariant-loop-g : goal.invariant-loop-g
invariant-loop-g l = record {
  here : (x : ℕ) → x < 8 * l.g → get_or l.sums (l.at + x) 0 ≡ row_sum l.columns x;
  before : (k : ℕ) → k < l.at → get_or l.sums k 0 ≡ get_or l.initial.sums k 0;
  coarse : 0 < length l.initial.coarse → (n : ℕ) → AreCoarse n l.initial.sums l.initial.coarse → AreCoarse n l.sums l.coarse;
  after : (k : ℕ) → l.at + 8 * l.g ≤ k → get_or l.sums k 0 ≡ get_or l.initial.sums k 0;
}
