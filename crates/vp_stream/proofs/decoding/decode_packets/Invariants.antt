use Rattle.std.proofs.Common.{◌≡◌, ◌-◌, ℕ, List}
use Rattle.std.specs.Io.KnownBytes.{Consumes}
use Rattle.vp_base.specs.Counted.{counted_remaining, counted_contents, counted_failures, counted_reads}
use Rattle.vp_ivf.specs.declared.packet.Packet.{Packet}
use Rattle.vp_stream.specs.PacketReader.{HasRead}
use Rattle.vp_stream.proofs.DecodingLemmas.{IsAt}
use Rattle.vp_stream.proofs.decoding.decode_packets.Given as goal

abbrev pub invariant-packets : goal.invariant-packets
invariant-packets g l =
    (fed : List ℕ) × (given : List Packet)
    × Consumes (counted_remaining g.R.Read.remaining l.fn.reader) (counted_remaining g.R.Read.remaining l.reader) fed
    × IsAt l.fn.run.limits l.fn.run.sizing.form l.file l.run (counted_contents g.W.Write.contents l.fn.writer) (counted_contents g.W.Write.contents l.writer) fed given
    × (counted_failures l.reader ≡ counted_failures l.fn.reader)
    × (counted_failures l.writer ≡ counted_failures l.fn.writer)
    × HasRead l.file (counted_reads l.fn.reader) (counted_reads l.reader)

abbrev pub decreases-packets : goal.decreases-packets
decreases-packets g l = l.fn.run.limits.packets - l.run.report.packets
