use Rattle.std.proofs.Common.{◌≡◌, ◌*◌, ◌≤◌}
use Rattle.vp_search.specs.Sums.{sum_below}
use Rattle.vp_search.specs.Differences.{squared_difference}
use Rattle.vp_search.proofs.squared_error.add_rest.Given as goal

abbrev pub invariant-loop-i : goal.invariant-loop-i
invariant-loop-i l = record {
  value : l.total ≡ sum_below l.i (squared_difference l.a l.b);
  bound : l.total ≤ 65025 * l.i;
}
