use Rattle.std.proofs.Common.{◌≡◌, ◌+◌, ◌*◌, ◌≤◌}
use Rattle.vp_search.specs.Differences.{sum_of_differences, block16}
use Rattle.vp_search.specs.Columns.{filtered}
use Rattle.vp_search.proofs.columns.add_cost.Given as goal

abbrev pub invariant-loop-i : goal.invariant-loop-i
invariant-loop-i l = record {
  sum : l.sum ≡ sum_of_differences (4 * l.i) 16 (block16 l.block) (λ r c. filtered l.filter l.rows (l.skip + r) c);
  bound : l.sum ≤ 16320 * l.i;
}
