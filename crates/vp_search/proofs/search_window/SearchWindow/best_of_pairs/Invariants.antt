use Rattle.std.proofs.Common.{◌-◌, ◌*◌, ◌≤◌}
use Rattle.vp_search.specs.Search.{IsBestInRow}
use Rattle.vp_search.proofs.search_window.SearchWindow.best_of_pairs.Given as goal

abbrev pub invariant-loop-pair : goal.invariant-loop-pair
invariant-loop-pair l = record {
  bound : l.from ≤ l.self.range;
  seen : IsBestInRow l.self l.row 0 (2 * l.from) l.fn.best l.found;
}

abbrev pub decreases-loop-pair : goal.decreases-loop-pair
decreases-loop-pair l = l.self.range - l.from
