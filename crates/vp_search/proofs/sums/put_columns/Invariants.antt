use Rattle.std.proofs.Common.{◌≡◌, ℕ, ◌+◌, ◌*◌, ◌<◌, get_or}
use Rattle.vp_search.specs.Bounds.{column_sum}
use Rattle.vp_search.proofs.sums.put_columns.Given as goal

abbrev pub invariant-loop-g : goal.invariant-loop-g
invariant-loop-g l = (x : ℕ) → x < 8 * l.g → get_or l.columns x 0 ≡ column_sum l.pixels (l.at + x) l.step
