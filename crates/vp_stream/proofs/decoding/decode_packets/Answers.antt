use Rattle.std.proofs.Common.{◌∙◌, ℕ, ◌++◌, ◌∷◌, [], Ok, Err, refl, sym, ap, subst, arith}
use Rattle.std.proofs.lemmas.Result.{err_from_is_err_and}
use Rattle.std.proofs.KnownBytes.{Consumes-nil, Consumes-trans}
use Rattle.vp_base.specs.Counted.{counted_remaining, counted_contents, counted_failures, counted_reads, HasFailed}
use Rattle.vp_stream.specs.declared.packet_reader.Next.{Next}
use Rattle.vp_stream.specs.declared.packet_reader.Next.TheVariants as next
use Rattle.vp_stream.specs.PacketReader.{PacketReader, GivesNext, HasRead, CountsReads}
use Rattle.vp_stream.proofs.DecodingLemmas.{at_first, failed, reported, faulty, room, cut, goes_on, fewer_left}
use Rattle.vp_stream.proofs.ReadLemmas.{nothing_read, decode_ran_out}
use Rattle.vp_stream.proofs.decoding.decode_packets.Goals as goal

pub packets-init : goal.packets-init
packets-init g c =
    let reads = counted_reads c.args.reader.now in (
      [],
      [],
      Consumes-nil (counted_remaining g.R.Read.remaining c.args.reader.now),
      at_first c.args.file.now c.args.run.now (counted_contents g.W.Write.contents c.args.writer.now) c.requires.unread c.requires.fresh,
      refl,
      refl,
      subst (λ (file : PacketReader). HasRead file reads reads) (sym c.requires.unread) (nothing_read c.args.run.now.limits reads),
    )

pub returns-in_err-head-clause-decoded : goal.returns-in_err-head-clause-decoded
returns-in_err-head-clause-decoded g c =
    let inv = c.packets.invariant in
    let now = c.in_err-head.ensures.given c.args.run.now.limits inv.0 inv.1 inv.3.reading in
    let p = err_from_is_err_and c.from_residual.result c.from_residual.ensures.1 in
    rw (p.1, p.2) (
      inv.0 ++ now.0,
      Consumes-trans (counted_remaining g.R.Read.remaining c.args.reader.now) (counted_remaining g.R.Read.remaining c.packets.reader) (counted_remaining g.R.Read.remaining c.next.new.reader) inv.0 now.0 inv.2 now.1,
      failed c.args.run.now.limits c.args.run.now.sizing.form c.packets.file c.packets.run (counted_contents g.W.Write.contents c.args.writer.now) (counted_contents g.W.Write.contents c.packets.writer) inv.0 now.0 inv.1 inv.3
          (HasFailed (counted_failures c.args.writer.now) (counted_failures c.packets.writer)) c.in_err-head.field-0.0 now.2,
    )

pub returns-in_err-head-clause-turns : goal.returns-in_err-head-clause-turns
returns-in_err-head-clause-turns g c =
    let reads = c.in_err-head.ensures.reads (counted_reads c.args.reader.now) c.packets.invariant.6 in
    let p = err_from_is_err_and c.from_residual.result c.from_residual.ensures.1 in
    rw (p.1, p.2) (decode_ran_out c.in_err-head.field-0.0 c.next.new.self (counted_reads c.args.reader.now) (counted_reads c.next.new.reader) reads)

pub packet-requires : goal.packet-requires
packet-requires g c =
    let inv = c.packets.invariant in
    let now = c.in_ok-head.ensures.given c.args.run.now.limits inv.0 inv.1 inv.3.reading in
    let r = subst (λ (n : Next). GivesNext c.args.run.now.limits (Ok n) c.next.new.self (counted_remaining g.R.Read.remaining c.next.new.reader) (inv.0 ++ now.0) inv.1) c.in-Packet.is now.2 in
    let some = room c.args.run.now.limits c.args.run.now.sizing.form c.packets.file c.packets.run (counted_contents g.W.Write.contents c.args.writer.now) (counted_contents g.W.Write.contents c.packets.writer) inv.0 now.0 inv.1 inv.3 c.in-Packet.packet c.in-Packet.head c.next.new.self r in
    let range = c.args.run.now.limits.packets_in_range in
    omega arith

pub returns-in_err-packet-in-Packet-clause-decoded : goal.returns-in_err-packet-in-Packet-clause-decoded
returns-in_err-packet-in-Packet-clause-decoded g c =
    let inv = c.packets.invariant in
    let now = c.in_ok-head.ensures.given c.args.run.now.limits inv.0 inv.1 inv.3.reading in
    let r = subst (λ (n : Next). GivesNext c.args.run.now.limits (Ok n) c.next.new.self (counted_remaining g.R.Read.remaining c.next.new.reader) (inv.0 ++ now.0) inv.1) c.in-Packet.is now.2 in
    let change = rw c.as_slice.ensures at c.in_err-packet-in-Packet.ensures.change in
    let prefix = rw c.as_slice.ensures at c.in_err-packet-in-Packet.ensures.prefix in
    let p = err_from_is_err_and c.from_residual-in_err-packet-in-Packet.result c.from_residual-in_err-packet-in-Packet.ensures.1 in
    rw (p.1, p.2) (
      inv.0 ++ now.0,
      Consumes-trans (counted_remaining g.R.Read.remaining c.args.reader.now) (counted_remaining g.R.Read.remaining c.packets.reader) (counted_remaining g.R.Read.remaining c.next.new.reader) inv.0 now.0 inv.2 now.1,
      cut c.args.run.now.limits c.args.run.now.sizing.form c.packets.file c.packets.run (counted_contents g.W.Write.contents c.args.writer.now) (counted_contents g.W.Write.contents c.packets.writer) inv.0 now.0 inv.1 inv.3
          c.in-Packet.packet c.in-Packet.head c.next.new.self r (HasFailed (counted_failures c.args.writer.now) (counted_failures c.packet.new.writer))
          c.in_err-packet-in-Packet.field-0.0 (counted_contents g.W.Write.contents c.packet.new.writer)
          (λ e. subst (λ (n : ℕ). HasFailed n (counted_failures c.packet.new.writer)) inv.5 (c.in_err-packet-in-Packet.ensures.device (ap Err e)))
          (λ e. change (ap Err e)) prefix,
    )

pub packets-smaller : goal.packets-smaller
packets-smaller g c =
    let inv = c.packets.invariant in
    let now = c.in_ok-head.ensures.given c.args.run.now.limits inv.0 inv.1 inv.3.reading in
    let r = subst (λ (n : Next). GivesNext c.args.run.now.limits (Ok n) c.next.new.self (counted_remaining g.R.Read.remaining c.next.new.reader) (inv.0 ++ now.0) inv.1) c.in-Packet.is now.2 in
    fewer_left c.args.run.now.limits.packets c.packets.run c.packet.new.self c.as_slice.result.now c.in_ok-packet-in-Packet.ensures.ok
    (room c.args.run.now.limits c.args.run.now.sizing.form c.packets.file c.packets.run (counted_contents g.W.Write.contents c.args.writer.now) (counted_contents g.W.Write.contents c.packets.writer) inv.0 now.0 inv.1 inv.3 c.in-Packet.packet c.in-Packet.head c.next.new.self r)

pub packets-preserved : goal.packets-preserved
packets-preserved g c =
    let inv = c.packets.invariant in
    let now = c.in_ok-head.ensures.given c.args.run.now.limits inv.0 inv.1 inv.3.reading in
    let r = subst (λ (n : Next). GivesNext c.args.run.now.limits (Ok n) c.next.new.self (counted_remaining g.R.Read.remaining c.next.new.reader) (inv.0 ++ now.0) inv.1) c.in-Packet.is now.2 in
    let after = rw c.as_slice.ensures at c.in_ok-packet-in-Packet.ensures.ok in
    let fits = rw c.as_slice.ensures at c.in_ok-packet-in-Packet.ensures.fits in
    let written = rw c.as_slice.ensures at c.in_ok-packet-in-Packet.ensures.written in (
      inv.0 ++ now.0,
      inv.1 ++ c.in-Packet.packet ∷ [],
      Consumes-trans (counted_remaining g.R.Read.remaining c.args.reader.now) (counted_remaining g.R.Read.remaining c.packets.reader) (counted_remaining g.R.Read.remaining c.next.new.reader) inv.0 now.0 inv.2 now.1,
      goes_on c.args.run.now.limits c.args.run.now.sizing.form c.packets.file c.packets.run (counted_contents g.W.Write.contents c.args.writer.now) (counted_contents g.W.Write.contents c.packets.writer) inv.0 now.0 inv.1 inv.3
          c.in-Packet.packet c.in-Packet.head c.next.new.self r c.packet.new.self (counted_contents g.W.Write.contents c.packet.new.writer) after fits written,
      c.in_ok-head.ensures.quiet (λ e. cc) ∙ inv.4,
      c.in_ok-packet-in-Packet.ensures.quiet (λ e. cc) ∙ inv.5,
      subst (λ (n : Next). CountsReads (Ok n) c.next.new.self (counted_reads c.args.reader.now) (counted_reads c.next.new.reader)) c.in-Packet.is
          (c.in_ok-head.ensures.reads (counted_reads c.args.reader.now) inv.6),
    )

pub returns-in-End-None-clause-decoded : goal.returns-in-End-None-clause-decoded
returns-in-End-None-clause-decoded g c =
    let inv = c.packets.invariant in
    let now = c.in_ok-head.ensures.given c.args.run.now.limits inv.0 inv.1 inv.3.reading in
    let ends = subst (λ (n : Next). GivesNext c.args.run.now.limits (Ok n) c.next.new.self (counted_remaining g.R.Read.remaining c.next.new.reader) (inv.0 ++ now.0) inv.1) (c.in-End-None.is ∙ ap next.End c.in-End-None.field-0-is) now.2 in (
      inv.0 ++ now.0,
      Consumes-trans (counted_remaining g.R.Read.remaining c.args.reader.now) (counted_remaining g.R.Read.remaining c.packets.reader) (counted_remaining g.R.Read.remaining c.next.new.reader) inv.0 now.0 inv.2 now.1,
      reported c.args.run.now.limits c.args.run.now.sizing.form c.packets.file c.packets.run (counted_contents g.W.Write.contents c.args.writer.now) (counted_contents g.W.Write.contents c.packets.writer) inv.0 now.0 inv.1 inv.3 c.next.new.self (counted_remaining g.R.Read.remaining c.next.new.reader) ends,
    )

pub returns-in-End-Some-clause-decoded : goal.returns-in-End-Some-clause-decoded
returns-in-End-Some-clause-decoded g c =
    let inv = c.packets.invariant in
    let now = c.in_ok-head.ensures.given c.args.run.now.limits inv.0 inv.1 inv.3.reading in
    let ends = subst (λ (n : Next). GivesNext c.args.run.now.limits (Ok n) c.next.new.self (counted_remaining g.R.Read.remaining c.next.new.reader) (inv.0 ++ now.0) inv.1) (c.in-End-Some.is ∙ ap next.End c.in-End-Some.field-0-is) now.2 in (
      inv.0 ++ now.0,
      Consumes-trans (counted_remaining g.R.Read.remaining c.args.reader.now) (counted_remaining g.R.Read.remaining c.packets.reader) (counted_remaining g.R.Read.remaining c.next.new.reader) inv.0 now.0 inv.2 now.1,
      faulty c.args.run.now.limits c.args.run.now.sizing.form c.packets.file c.packets.run (counted_contents g.W.Write.contents c.args.writer.now) (counted_contents g.W.Write.contents c.packets.writer) inv.0 now.0 inv.1 inv.3
          (HasFailed (counted_failures c.args.writer.now) (counted_failures c.packets.writer)) c.in-End-Some.fault c.next.new.self (counted_remaining g.R.Read.remaining c.next.new.reader) ends,
    )

pub returns-in_err-head-clause-reads : goal.returns-in_err-head-clause-reads
returns-in_err-head-clause-reads g c = c.in_err-head.ensures.most (counted_reads c.args.reader.now) c.packets.invariant.6

pub returns-in_err-packet-in-Packet-clause-reads : goal.returns-in_err-packet-in-Packet-clause-reads
returns-in_err-packet-in-Packet-clause-reads g c = c.in_ok-head.ensures.most (counted_reads c.args.reader.now) c.packets.invariant.6

pub returns-in-End-None-clause-reads : goal.returns-in-End-None-clause-reads
returns-in-End-None-clause-reads g c = c.in_ok-head.ensures.most (counted_reads c.args.reader.now) c.packets.invariant.6

pub returns-in-End-Some-clause-reads : goal.returns-in-End-Some-clause-reads
returns-in-End-Some-clause-reads g c = c.in_ok-head.ensures.most (counted_reads c.args.reader.now) c.packets.invariant.6
