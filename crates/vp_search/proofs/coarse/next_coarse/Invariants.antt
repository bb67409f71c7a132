use Rattle.std.proofs.Common.{ℕ, ◌+◌, ◌*◌, ◌<◌, ◌≤◌}
use Rattle.vp_search.specs.Bounds.{bound_of}
use Rattle.vp_search.proofs.coarse.next_coarse.Given as goal

abbrev pub invariant-loop-pair : goal.invariant-loop-pair
invariant-loop-pair l = (g t : ℕ) → l.start ≤ g → g < l.start + 2 * l.pair → g < l.groups → t < 8
    → l.limit < bound_of l.sums.block l.sums.places.now (l.at + 8 * g + t)
