use Rattle.std.proofs.Common.{◌≡◌, length}
use Rattle.vp_hub.specs.Names.{are_distinct}
use Rattle.vp_hub.proofs.names.differ.Given as goal

abbrev pub invariant-loop-name : goal.invariant-loop-name
invariant-loop-name l = are_distinct l.rest ≡ are_distinct l.names

abbrev pub decreases-loop-name : goal.decreases-loop-name
decreases-loop-name l = length l.rest
