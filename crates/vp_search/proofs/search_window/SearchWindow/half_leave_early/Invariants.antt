use Rattle.std.proofs.Common.{◌≤◌}
use Rattle.vp_search.proofs.search_window.SearchWindow.half_leave_early.Given as goal

abbrev pub invariant-loop-t : goal.invariant-loop-t
invariant-loop-t l = l.count ≤ l.t
