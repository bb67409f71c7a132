use Rattle.std.proofs.Common.{◌≡◌, length}
use Rattle.vp_hints.specs.Packets.{counted_after}
use Rattle.vp_hints.proofs.packets.PacketCount.pass.Given as goal

-- what the bytes left make of the count so far is what all of them make of the first one
abbrev pub invariant-loop-rest : goal.invariant-loop-rest
invariant-loop-rest l = counted_after l.self l.rest ≡ counted_after l.initial.self l.bytes

abbrev pub decreases-loop-rest : goal.decreases-loop-rest
decreases-loop-rest l = length l.rest
