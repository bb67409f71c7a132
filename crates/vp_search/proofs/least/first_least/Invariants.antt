use Rattle.std.proofs.Common.{slice_index}
use Rattle.vp_search.specs.FirstLeast.{IsFirstLeast}
use Rattle.vp_search.proofs.least.first_least.Given as goal

abbrev pub invariant-loop-i : goal.invariant-loop-i
invariant-loop-i l = IsFirstLeast l.i (slice_index l.costs) l.best
