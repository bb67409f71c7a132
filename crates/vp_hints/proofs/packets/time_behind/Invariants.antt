use Rattle.std.proofs.Common.{◌≡◌, length}
use Rattle.vp_hints.specs.Packets.{time_behind}
use Rattle.vp_hints.proofs.packets.time_behind.Given as goal

-- what the bytes left make of the time so far is what all of them make of the first one
abbrev pub invariant-loop-rest : goal.invariant-loop-rest
invariant-loop-rest l = time_behind l.time l.rest ≡ time_behind l.start l.bytes

abbrev pub decreases-loop-rest : goal.decreases-loop-rest
decreases-loop-rest l = length l.rest
