use Rattle.std.proofs.Common.{◌≡◌, ◌<◌, ◌≤◌, ◌+◌, ◌*◌, ℕ, get_or}
use Rattle.vp_scale.specs.Runs.{block_sum}
use Rattle.vp_scale.proofs.plane.PlaneView.column_sums.Given as goal

abbrev pub invariant-loop-row : goal.invariant-loop-row
invariant-loop-row l = record {
  value : (j : ℕ) → j < 8 → get_or l.sums j 0 ≡ block_sum 1 l.row l.self (l.x + j) l.y;
  bound : (j : ℕ) → j < 8 → get_or l.sums j 0 ≤ 255 * l.row;
}
