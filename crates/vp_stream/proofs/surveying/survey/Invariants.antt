use Rattle.std.proofs.Common.{◌≡◌, ◌-◌, ℕ, List, length}
use Rattle.std.specs.Io.KnownBytes.{Consumes}
use Rattle.vp_base.specs.Counted.{counted_remaining, counted_failures, counted_reads}
use Rattle.vp_ivf.specs.declared.packet.Packet.{Packet}
use Rattle.vp_stream.specs.PacketReader.{HasRead}
use Rattle.vp_stream.proofs.SurveyLemmas.{IsTold}
use Rattle.vp_stream.proofs.surveying.survey.Given as goal

abbrev pub invariant-packets : goal.invariant-packets
invariant-packets g l =
    (fed : List ℕ) × (given : List Packet)
    × Consumes (counted_remaining g.R.Read.remaining l.fn.reader) (counted_remaining g.R.Read.remaining l.reader) fed
    × IsTold l.fn.limits l.file l.outcomes l.packets fed given
    × (counted_failures l.reader ≡ counted_failures l.fn.reader)
    × HasRead l.file (counted_reads l.fn.reader) (counted_reads l.reader)

abbrev pub decreases-packets : goal.decreases-packets
decreases-packets g l = l.fn.limits.packets - length l.packets
