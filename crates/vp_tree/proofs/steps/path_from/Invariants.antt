use Rattle.std.proofs.Common.{◌≡◌, ◌≤◌, ◌<◌, ◌*◌, ◌+◌, ◌-◌, ◌%◌, true, length}
use Rattle.vp_tree.specs.Search.{has_leaf}
use Rattle.vp_tree.proofs.Searches.{Goes}
use Rattle.vp_tree.proofs.steps.path_from.Given as goal

abbrev pub invariant-walk : goal.invariant-walk
invariant-walk g l = record {
  pair_in : l.place + 1 < length l.tree;
  even : l.place % 2 ≡ 0;
  leaf_in : has_leaf (g.T.PartialEq.eq l.leaf) l.tree l.place ≡ true;
  room : 2 * length l.path.items ≤ l.place;
  so_far : Goes l.tree l.from l.path.items l.place;
}

abbrev pub decreases-walk : goal.decreases-walk
decreases-walk g l = length l.tree - l.place
