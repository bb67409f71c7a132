use Rattle.std.proofs.Common.{◌≡◌, ℕ, ◌++◌, List, length, true}
use Rattle.std.specs.Io.KnownBytes.{Appends}
use Rattle.vp_head.specs.declared.fault.PacketFault.{PacketFault}
use Rattle.vp_base.specs.Counted.{counted_contents}
use Rattle.vp_lines.specs.FaultLines.{fault_lines}
use Rattle.vp_lines.proofs.listing.print_faults.Given as goal

abbrev pub invariant-loop-rest : goal.invariant-loop-rest
invariant-loop-rest g l =
    (front : List (ℕ × PacketFault)) × (l.faults ≡ front ++ l.rest)
    × (l.well ≡ true → Appends (counted_contents g.E.Write.contents l.fn.errors) (counted_contents g.E.Write.contents l.errors) (fault_lines front))

abbrev pub decreases-loop-rest : goal.decreases-loop-rest
decreases-loop-rest g l = length l.rest
