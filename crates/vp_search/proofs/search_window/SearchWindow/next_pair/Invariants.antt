use Rattle.std.proofs.Common.{◌*◌}
use Rattle.vp_search.specs.Search.{AreAbove}
use Rattle.vp_search.proofs.search_window.SearchWindow.next_pair.Given as goal

abbrev pub invariant-loop-number : goal.invariant-loop-number
invariant-loop-number l = AreAbove l.self l.limit l.row (2 * l.from) (2 * l.number)
