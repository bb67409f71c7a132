use Rattle.std.proofs.Common.{◌≡◌, length}
use Rattle.vp_heads.specs.Fields.{has_close}
use Rattle.vp_heads.proofs.fields.names_close.Given as goal

abbrev pub invariant-loop-member : goal.invariant-loop-member
invariant-loop-member l = has_close l.rest ≡ has_close l.value

abbrev pub decreases-loop-member : goal.decreases-loop-member
decreases-loop-member l = length l.rest
