use Rattle.std.proofs.Common.{◌≤◌, ◌-◌, length}
use Rattle.std.specs.Io.KnownBytes.{Appends}
use Rattle.vp_base.specs.Counted.{counted_contents}
use Rattle.vp_lines.specs.Listing.{packet_lines}
use Rattle.vp_lines.proofs.listing.put_packets.Given as goal

abbrev pub invariant-loop-number : goal.invariant-loop-number
invariant-loop-number g l =
    (l.number ≤ length l.packets)
    × Appends (counted_contents g.W.Write.contents l.fn.output) (counted_contents g.W.Write.contents l.output) (packet_lines l.packets l.number)

abbrev pub decreases-loop-number : goal.decreases-loop-number
decreases-loop-number g l = length l.packets - l.number
