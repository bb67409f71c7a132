use Rattle.std.proofs.Common.{◌≡◌, ◌++◌, ℕ, List}
use Rattle.std.specs.Io.KnownBytes.{Consumes}
use Rattle.vp_base.specs.declared.limits.Limits.{Limits}
use Rattle.vp_base.specs.Counted.{counted_remaining, counted_failures, counted_reads}
use Rattle.vp_ivf.specs.declared.packet.Packet.{Packet}
use Rattle.vp_stream.specs.PacketReader.{IsReading, HasRead}
use Rattle.vp_stream.proofs.packet_reader.PacketReader.next.Given as goal

abbrev pub invariant-reading : goal.invariant-reading
invariant-reading g l =
    ((limits : Limits) (fed : List ℕ) (given : List Packet) → IsReading limits l.fn.self fed given
    → (more : List ℕ)
    × Consumes (counted_remaining g.R.Read.remaining l.fn.reader) (counted_remaining g.R.Read.remaining l.reader) more
    × IsReading limits l.self (fed ++ more) given)
    × (counted_failures l.reader ≡ counted_failures l.fn.reader)
    × ((before : ℕ) → HasRead l.fn.self before (counted_reads l.fn.reader) → HasRead l.self before (counted_reads l.reader))

abbrev pub decreases-reading : goal.decreases-reading
decreases-reading g l = l.self.turns
