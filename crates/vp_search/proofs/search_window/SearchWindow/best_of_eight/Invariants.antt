use Rattle.std.proofs.Common.{◌≡◌, ℕ, ◌+◌, ◌*◌, ◌<◌, ◌≤◌}
use Rattle.std.specs.Int.{bit_at}
use Rattle.vp_search.specs.Least.{IsNoWorse}
use Rattle.vp_search.specs.Search.{IsFound, IsNoWorseAt}
use Rattle.vp_search.proofs.search_window.SearchWindow.best_of_eight.Given as goal

abbrev pub invariant-loop-left : goal.invariant-loop-left
invariant-loop-left l = record {
  few : l.left < 256;
  found : IsFound l.window l.initial.best → IsFound l.window l.best;
  better : IsNoWorse l.best.cost l.best.vector l.initial.best.cost l.initial.best.vector;
  seen : (t : ℕ) → t < 8 → bit_at l.left t ≡ 0 → l.spot.column + t ≤ 2 * l.window.range → IsNoWorseAt l.window l.best l.spot.row (l.spot.column + t);
}

abbrev pub decreases-loop-left : goal.decreases-loop-left
decreases-loop-left l = l.left
