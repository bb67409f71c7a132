use Rattle.std.proofs.Common.{ℕ, ◌+◌, ◌-◌, ◌*◌, ◌<◌, ◌≤◌}
use Rattle.vp_search.specs.Bounds.{bound_of}
use Rattle.vp_search.proofs.sums.next_within.Given as goal

abbrev pub invariant-loop-g : goal.invariant-loop-g
invariant-loop-g l = record {
  later : l.start ≤ l.g;
  bound : l.g ≤ l.groups;
  skipped : (g t : ℕ) → l.start ≤ g → g < l.g → t < 8 → l.limit < bound_of l.sums.block l.sums.places.now (l.at + 8 * g + t);
}

abbrev pub decreases-loop-g : goal.decreases-loop-g
decreases-loop-g l = l.groups - l.g
