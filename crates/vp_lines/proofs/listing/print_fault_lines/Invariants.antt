use Rattle.std.proofs.Common.{◌≡◌, take, true}
use Rattle.std.specs.Io.KnownBytes.{Appends}
use Rattle.vp_lines.specs.FaultLines.{fault_lines}
use Rattle.vp_lines.proofs.listing.print_fault_lines.Given as goal

abbrev pub invariant-loop-packet : goal.invariant-loop-packet
invariant-loop-packet g l =
    l.well ≡ true → Appends (g.W.Write.contents l.fn.output) (g.W.Write.contents l.output) (fault_lines (take l.packet-index l.faults))
