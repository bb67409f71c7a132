use Rattle.std.proofs.Common.{◌≡◌, drop}
use Rattle.vp_bool.specs.Writing.{write_all}
use Rattle.vp_tree.specs.Tree.{spelled}
use Rattle.vp_tree.proofs.writing.write_path.Given as goal

-- the steps to come make of what is written what all of them make of what was written before
abbrev pub invariant-loop-i : goal.invariant-loop-i
invariant-loop-i l = write_all (spelled l.probabilities (drop l.i l.path)) l.encoder ≡ write_all (spelled l.probabilities l.path) l.fn.encoder
