use Rattle.std.proofs.Common.{◌≡◌, ℕ, ◌+◌, ◌*◌, ◌<◌, ◌≤◌, get_or}
use Rattle.vp_search.specs.Bounds.{column_sum}
use Rattle.vp_search.proofs.sums.slide_columns.Given as goal

abbrev pub invariant-loop-g : goal.invariant-loop-g
invariant-loop-g l = record {
  done : (x : ℕ) → x < 8 * l.g → get_or l.columns x 0 ≡ column_sum l.pixels (l.at + l.step + x) l.step;
  left : (x : ℕ) → 8 * l.g ≤ x → get_or l.columns x 0 ≡ get_or l.initial.columns x 0;
}
