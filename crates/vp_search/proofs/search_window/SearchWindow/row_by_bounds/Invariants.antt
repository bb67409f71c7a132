use Rattle.std.proofs.Common.{◌-◌, ◌*◌, ◌≤◌}
use Rattle.vp_search.specs.Search.{IsBestInRow}
use Rattle.vp_search.proofs.search_window.SearchWindow.row_by_bounds.Given as goal

abbrev pub invariant-loop-next : goal.invariant-loop-next
invariant-loop-next l = record {
  few : l.passed ≤ 8 * l.g;
  within : l.g ≤ l.groups;
  seen : IsBestInRow l.self l.row 0 (8 * l.g) l.fn.best l.found;
}

abbrev pub decreases-loop-next : goal.decreases-loop-next
decreases-loop-next l = l.groups - l.g
