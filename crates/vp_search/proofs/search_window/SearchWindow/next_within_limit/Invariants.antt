use Rattle.vp_search.specs.Search.{AreAbove}
use Rattle.vp_search.proofs.search_window.SearchWindow.next_within_limit.Given as goal

abbrev pub invariant-loop-column : goal.invariant-loop-column
invariant-loop-column g l = AreAbove l.self l.limit l.row l.from l.column
