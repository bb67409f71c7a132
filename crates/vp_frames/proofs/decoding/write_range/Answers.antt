use Rattle.std.proofs.Common.{◌≡◌, ◌∙◌, ◌+◌, ◌^◌, ◌<◌, ◌≤◌, ℕ, min, length, Some, None, Err, refl, sym, ap, subst, arith}
use Rattle.std.proofs.lemmas.Grind.{common_steps}
use Rattle.std.proofs.lemmas.Result.{err_from_is_err_and}
use Rattle.vp_base.specs.Counted.{counted_contents, counted_failures, HasFailed}
use Rattle.vp_frames.specs.declared.report.RangeReport.{RangeReport}
use Rattle.vp_frames.proofs.CountLemmas.{behind_on, decoded_all, all_taken}
use Rattle.vp_frames.proofs.WrittenLemmas.{answers_for, long, unheaded, stopped, written_on, reported}
use Rattle.vp_frames.proofs.decoding.write_range.Goals as goal

pub returns-in_default-clause-written : goal.returns-in_default-clause-written
returns-in_default-clause-written g c = λ file read.
    let known : c.args.stream.now.reading.head ≡ None = grind (arith, common_steps) in
    unheaded c.args.form file c.args.range c.args.stream.now _ (counted_contents g.W.Write.contents c.args.writer.now)
    read known c.count-count.ensures.value refl c.new.ensures

pub returns-in_err-packet-clause-written : goal.returns-in_err-packet-clause-written
returns-in_err-packet-clause-written g c = λ file read.
    let inv = c.loop-number.invariant in
    let s = c.args.stream.now in
    let low : c.args.range.first ≤ c.loop-number.number = c.loop-number.auto.number in
    let high : c.loop-number.number ≤ c.args.range.last = omega (arith, c.end-number-end.ensures) in
    let within : c.loop-number.number < length s.reading.packets = omega (arith, c.end-number-end.ensures, c.count-count.ensures.value) in
    let p = err_from_is_err_and c.from_residual.result c.from_residual.ensures.1 in
    rw (p.1, p.2)
    (stopped c.args.form file c.args.range s c.loop-number.decoder.head c.loop-number.number c.loop-number.decoder.pictures c.loop-number.decoder.faults
    (counted_contents g.W.Write.contents c.args.writer.now) (counted_contents g.W.Write.contents c.loop-number.writer) (counted_contents g.W.Write.contents c.packet.new.writer)
    (HasFailed (counted_failures c.args.writer.now) (counted_failures c.packet.new.writer)) c.in_err-packet.field-0.0
    read inv.head inv.at low high within c.in_err-packet.ensures.stops
    (λ e. subst (λ (n : ℕ). HasFailed n (counted_failures c.packet.new.writer)) inv.quiet (c.in_err-packet.ensures.device (ap Err e)))
    (λ e. c.in_err-packet.ensures.change (ap Err e)) c.in_err-packet.ensures.prefix)

pub loop-number-preserved : goal.loop-number-preserved
loop-number-preserved g c =
    let inv = c.loop-number.invariant in
    let s = c.args.stream.now in
    let n = c.loop-number.number in
    let end = min (c.args.range.last + 1) (length s.reading.packets) in
    let low : c.args.range.first ≤ n = c.loop-number.auto.number in
    let lt : n < end = omega (arith, c.end-number-end.ensures, c.count-count.ensures.value) in
    let within : end ≤ length s.reading.packets = omega arith in
    let few : n + 1 < 2 ^ 64 = omega (arith, c.count-count.ensures.limit, c.count-count.ensures.value, s.limits.packets_in_range) in
    record {
      head = inv.head ∙ ap (λ h. Some h) (sym c.packet.ensures.head);
      cursor = c.in_ok-packet.ensures.cursor;
      behind = behind_on s.reading.packets c.args.range.first end n c.loop-number.decoder.cursor.next c.loop-number.decoder.decoded
          c.packet.new.self.cursor.next c.packet.new.self.decoded lt within low few inv.behind c.in_ok-packet.ensures.next c.in_ok-packet.ensures.decoded;
      at = written_on c.args.form s c.loop-number.decoder.head c.packet.new.self.head c.args.range.first n
          c.loop-number.decoder.pictures c.packet.new.self.pictures c.loop-number.decoder.faults c.packet.new.self.faults
          (counted_contents g.W.Write.contents c.args.writer.now) (counted_contents g.W.Write.contents c.loop-number.writer) (counted_contents g.W.Write.contents c.packet.new.writer)
          c.packet.ensures.head inv.at low (omega arith)
          c.in_ok-packet.ensures.pictures c.in_ok-packet.ensures.faults c.in_ok-packet.ensures.fits c.in_ok-packet.ensures.written;
      quiet = c.in_ok-packet.ensures.quiet (λ e. cc) ∙ inv.quiet;
    }

pub returns-clause-written : goal.returns-clause-written
returns-clause-written g c = λ file read.
    let inv = c.loop-number.invariant in
    let s = c.args.stream.now in
    let ps = s.reading.packets in
    let range = c.args.range in
    let n = c.loop-number.number in
    let decoder = c.loop-number.decoder in
    let end = min (range.last + 1) (length ps) in
    let past : end ≤ n = omega (arith, c.end-number-end.ensures, c.count-count.ensures.value) in
    let report = c.into_report.ensures in
    reported c.args.form file range s decoder.head read inv.head n decoder.pictures decoder.faults
    (counted_contents g.W.Write.contents c.args.writer.now) (counted_contents g.W.Write.contents c.loop-number.writer) c.into_report.result inv.at
    (all_taken (answers_for s) ps range.first range.last end n decoder.cursor.next decoder.decoded (long s) refl past range.order inv.behind)
    (ap (λ (r : RangeReport). r.count) report ∙ c.count-count.ensures.value)
    (ap (λ (r : RangeReport). r.decoded) report ∙ decoded_all ps range end n decoder.cursor.next decoder.decoded refl past range.order inv.behind)
    (ap (λ (r : RangeReport). r.faults) report)
