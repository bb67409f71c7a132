use Rattle.std.proofs.Common.{◌≡◌, ℕ, ◌<◌, ◌≤◌, [], length, get_or}
use Rattle.vp_search.specs.Differences.{sum_of_differences, block_from_rows}
use Rattle.vp_choose.proofs.subblocks.costs_of.Given as goal

abbrev pub invariant-loop-i : goal.invariant-loop-i
invariant-loop-i l = record {
  size : length l.costs ≡ 10;
  done : (j : ℕ) → j < l.i → get_or l.costs j 0 ≡ sum_of_differences 4 4 (block_from_rows 4 l.block) (block_from_rows 4 (get_or l.predictions j []));
  within : (j : ℕ) → get_or l.costs j 0 ≤ 4080;
}
