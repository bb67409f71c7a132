use Rattle.std.proofs.Common.{◌+◌, ◌-◌, ◌*◌, ◌≤◌}
use Rattle.vp_search.specs.Search.{IsBestInRow}
use Rattle.vp_search.proofs.search_window.SearchWindow.best_of_each.Given as goal

abbrev pub invariant-loop-next : goal.invariant-loop-next
invariant-loop-next g l = record {
  bound : l.from ≤ 2 * l.self.range + 1;
  seen : IsBestInRow l.self l.row 0 l.from l.fn.best l.found;
}

abbrev pub decreases-loop-next : goal.decreases-loop-next
decreases-loop-next g l = 2 * l.self.range + 1 - l.from
