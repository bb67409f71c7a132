use Rattle.std.proofs.Common.{◌∙◌, ◌++◌, ◌∷◌, [], Ok, length, subst}
use Rattle.std.proofs.lemmas.Result.{err_from_is_err_and}
use Rattle.std.proofs.KnownBytes.{Consumes-trans}
use Rattle.vp_base.specs.Counted.{counted_remaining, counted_reads}
use Rattle.vp_decode.specs.Step.{step, outcome}
use Rattle.vp_stream.specs.declared.packet_reader.Next.{Next}
use Rattle.vp_stream.specs.PacketReader.{GivesNext, CountsReads}
use Rattle.vp_stream.proofs.SurveyLemmas.{state_after, surveyed, room, told_on, fewer_told}
use Rattle.vp_stream.proofs.ReadLemmas.{survey_ran_out}
use Rattle.vp_stream.proofs.surveying.survey.Goals as goal

pub returns-in_err-packet-clause-surveyed : goal.returns-in_err-packet-clause-surveyed
returns-in_err-packet-clause-surveyed g c =
    let inv = c.packets.invariant in
    let now = c.in_err-packet.ensures.given c.args.limits inv.0 inv.1 inv.3.reading in
    let p = err_from_is_err_and c.from_residual.result c.from_residual.ensures.1 in
    rw (p.1, p.2) (
      inv.0 ++ now.0,
      Consumes-trans (counted_remaining g.R.Read.remaining c.args.reader.now) (counted_remaining g.R.Read.remaining c.packets.reader) (counted_remaining g.R.Read.remaining c.next.new.reader) inv.0 now.0 inv.2 now.1,
      now.2.0,
    )

pub returns-in_err-packet-clause-turns : goal.returns-in_err-packet-clause-turns
returns-in_err-packet-clause-turns g c =
    let reads = c.in_err-packet.ensures.reads (counted_reads c.args.reader.now) c.packets.invariant.5 in
    let p = err_from_is_err_and c.from_residual.result c.from_residual.ensures.1 in
    rw (p.1, p.2) (survey_ran_out c.in_err-packet.field-0.0 c.next.new.self (counted_reads c.args.reader.now) (counted_reads c.next.new.reader) reads)

pub returns-in_err-tell-in-Packet-clause-surveyed : goal.returns-in_err-tell-in-Packet-clause-surveyed
returns-in_err-tell-in-Packet-clause-surveyed g c =
    let inv = c.packets.invariant in
    let now = c.in_ok-packet.ensures.given c.args.limits inv.0 inv.1 inv.3.reading in
    let p = err_from_is_err_and c.from_residual-in_err-tell-in-Packet.result c.from_residual-in_err-tell-in-Packet.ensures.1 in
    rw (p.1, p.2) (
      inv.0 ++ now.0,
      Consumes-trans (counted_remaining g.R.Read.remaining c.args.reader.now) (counted_remaining g.R.Read.remaining c.packets.reader) (counted_remaining g.R.Read.remaining c.next.new.reader) inv.0 now.0 inv.2 now.1,
      tt,
    )

pub packets-smaller : goal.packets-smaller
packets-smaller g c =
    let inv = c.packets.invariant in
    let now = c.in_ok-packet.ensures.given c.args.limits inv.0 inv.1 inv.3.reading in
    let r = subst (λ (n : Next). GivesNext c.args.limits (Ok n) c.next.new.self (counted_remaining g.R.Read.remaining c.next.new.reader) (inv.0 ++ now.0) inv.1) c.in-Packet.is now.2 in
    fewer_told c.args.limits.packets c.packets.packets c.tell.new.packets (length c.as_slice.result.now, outcome (step c.args.limits (state_after c.args.limits inv.1) c.as_slice.result.now).1)
    (c.in_ok-tell-in-Packet.ensures.packets c.args.limits (state_after c.args.limits inv.1) inv.3.beside)
    (room c.args.limits c.packets.file c.packets.outcomes c.packets.packets inv.0 now.0 inv.1 inv.3 c.in-Packet.packet c.next.new.self r.0)

pub packets-preserved : goal.packets-preserved
packets-preserved g c =
    let inv = c.packets.invariant in
    let now = c.in_ok-packet.ensures.given c.args.limits inv.0 inv.1 inv.3.reading in
    let r = subst (λ (n : Next). GivesNext c.args.limits (Ok n) c.next.new.self (counted_remaining g.R.Read.remaining c.next.new.reader) (inv.0 ++ now.0) inv.1) c.in-Packet.is now.2 in
    let state = state_after c.args.limits inv.1 in
    let after = rw c.as_slice.ensures at (c.in_ok-tell-in-Packet.ensures.outcomes c.args.limits state inv.3.beside) in
    let told = rw c.as_slice.ensures at (c.in_ok-tell-in-Packet.ensures.packets c.args.limits state inv.3.beside) in (
      inv.0 ++ now.0,
      inv.1 ++ c.in-Packet.packet ∷ [],
      Consumes-trans (counted_remaining g.R.Read.remaining c.args.reader.now) (counted_remaining g.R.Read.remaining c.packets.reader) (counted_remaining g.R.Read.remaining c.next.new.reader) inv.0 now.0 inv.2 now.1,
      told_on c.args.limits c.packets.file c.packets.outcomes c.packets.packets inv.0 now.0 inv.1 inv.3 c.in-Packet.packet c.next.new.self r.0
          c.tell.new.outcomes c.tell.new.packets after told,
      c.in_ok-packet.ensures.quiet (λ e. cc) ∙ inv.4,
      subst (λ (n : Next). CountsReads (Ok n) c.next.new.self (counted_reads c.args.reader.now) (counted_reads c.next.new.reader)) c.in-Packet.is
          (c.in_ok-packet.ensures.reads (counted_reads c.args.reader.now) inv.5),
    )

pub returns-in-End-clause-surveyed : goal.returns-in-End-clause-surveyed
returns-in-End-clause-surveyed g c =
    let inv = c.packets.invariant in
    let now = c.in_ok-packet.ensures.given c.args.limits inv.0 inv.1 inv.3.reading in
    let ends = subst (λ (n : Next). GivesNext c.args.limits (Ok n) c.next.new.self (counted_remaining g.R.Read.remaining c.next.new.reader) (inv.0 ++ now.0) inv.1) c.in-End.is now.2 in (
      inv.0 ++ now.0,
      Consumes-trans (counted_remaining g.R.Read.remaining c.args.reader.now) (counted_remaining g.R.Read.remaining c.packets.reader) (counted_remaining g.R.Read.remaining c.next.new.reader) inv.0 now.0 inv.2 now.1,
      surveyed c.args.limits c.packets.file c.packets.outcomes c.packets.packets inv.0 now.0 inv.1 inv.3 c.next.new.self (counted_remaining g.R.Read.remaining c.next.new.reader) c.in-End.fault c.head.result ends c.head.ensures,
    )

pub returns-in_err-packet-clause-reads : goal.returns-in_err-packet-clause-reads
returns-in_err-packet-clause-reads g c = c.in_err-packet.ensures.most (counted_reads c.args.reader.now) c.packets.invariant.5

pub returns-in_err-tell-in-Packet-clause-reads : goal.returns-in_err-tell-in-Packet-clause-reads
returns-in_err-tell-in-Packet-clause-reads g c = c.in_ok-packet.ensures.most (counted_reads c.args.reader.now) c.packets.invariant.5

pub returns-in-End-clause-reads : goal.returns-in-End-clause-reads
returns-in-End-clause-reads g c = c.in_ok-packet.ensures.most (counted_reads c.args.reader.now) c.packets.invariant.5
