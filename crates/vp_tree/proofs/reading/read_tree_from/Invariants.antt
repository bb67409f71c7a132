use Rattle.std.proofs.Common.{◌≡◌, ◌<◌, ◌+◌, ◌-◌, length}
use Rattle.vp_tree.specs.Tree.{walk_from}
use Rattle.vp_tree.proofs.reading.read_tree_from.Given as goal

abbrev pub invariant-walk : goal.invariant-walk
invariant-walk g l = record {
  pair_in : l.place + 1 < length l.tree;
  so_far : (default : g.row.T.Denot) → walk_from default l.tree l.probabilities l.place l.decoder ≡ walk_from default l.tree l.probabilities l.from l.fn.decoder;
}

abbrev pub decreases-walk : goal.decreases-walk
decreases-walk g l = length l.tree - l.place
