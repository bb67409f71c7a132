use Rattle.std.proofs.Common.{◌≡◌, ◌∙◌, None, Ok, Err, refl, sym, ap}
use Rattle.std.proofs.lemmas.Grind.{common_steps}
use Rattle.std.proofs.Common.{arith}
use Rattle.std.proofs.lemmas.Result.{err_from_is_err_and}
use Rattle.std.specs.Result.{result_err}
use Rattle.vp_base.specs.Counted.{counted_remaining}
use Rattle.vp_ivf.specs.Reader.{ReaderState, refusal, finish_answer}
use Rattle.vp_stream.specs.PacketReader.{PacketReader, next_waiting}
use Rattle.vp_stream.proofs.IncomingLemmas.{next_refused, next_failed, next_ended, next_read}
use Rattle.vp_stream.proofs.ReadLemmas.{same_reads, read_once, all_read, few_reads, few_after}
use Rattle.vp_stream.proofs.packet_reader.PacketReader.next.Goals as goal

pub returns-in-Some-refusal-clause-given : goal.returns-in-Some-refusal-clause-given
returns-in-Some-refusal-clause-given g c =
    let none : next_waiting c.reading.self ≡ None = grind (arith, common_steps) in
    next_refused c.args.self.now c.reading.self c.waiting.new.self
    (counted_remaining g.R.Read.remaining c.args.reader.now) (counted_remaining g.R.Read.remaining c.reading.reader)
    c.reading.invariant.0 none c.waiting.ensures.rest c.in-Some-refusal.fault
    (ap (λ (s : PacketReader). refusal s.file) (sym c.self.view_is) ∙ (sym c.refusal.ensures ∙ c.in-Some-refusal.is))

pub returns-in_err-read_piece-clause-given : goal.returns-in_err-read_piece-clause-given
returns-in_err-read_piece-clause-given g c =
    let none : next_waiting c.reading.self ≡ None = grind (arith, common_steps) in
    let p = err_from_is_err_and c.from_residual.result c.from_residual.ensures.1 in
    rw (p.1, p.2)
    (next_failed c.args.self.now c.reading.self c.waiting.new.self
    (counted_remaining g.R.Read.remaining c.args.reader.now) (counted_remaining g.R.Read.remaining c.reading.reader)
    c.reading.invariant.0 none c.waiting.ensures.rest
    c.read_piece.new.self (counted_remaining g.R.Read.remaining c.read_piece.new.reader) c.in_err-read_piece.field-0.0 c.in_err-read_piece.ensures.took)

pub returns-then-not-branch-clause-given : goal.returns-then-not-branch-clause-given
returns-then-not-branch-clause-given g c =
    let none : next_waiting c.reading.self ≡ None = grind (arith, common_steps) in
    next_ended c.args.self.now c.reading.self c.waiting.new.self
    (counted_remaining g.R.Read.remaining c.args.reader.now) (counted_remaining g.R.Read.remaining c.reading.reader)
    c.reading.invariant.0 none c.waiting.ensures.rest
    c.read_piece.new.self _ (counted_remaining g.R.Read.remaining c.read_piece.new.reader) c.in_ok-read_piece.field-0 c.err.result
    c.if-not-branch.true c.in_ok-read_piece.ensures.took
    (ap (λ (s : ReaderState). s.reading) c.finish.ensures.state ∙ ap (λ (s : PacketReader). s.file.reading) c.self-in-reading.view_is)
    (c.err.ensures.value ∙ (ap result_err c.finish.ensures.answer ∙ ap (λ (s : PacketReader). result_err (finish_answer s.file.reading)) c.self-in-reading.view_is))

pub reading-preserved : goal.reading-preserved
reading-preserved g c =
    let none : next_waiting c.reading.self ≡ None = grind (arith, common_steps) in (
      next_read c.args.self.now c.reading.self c.waiting.new.self
          (counted_remaining g.R.Read.remaining c.args.reader.now) (counted_remaining g.R.Read.remaining c.reading.reader)
          c.reading.invariant.0 none c.waiting.ensures.rest
          c.read_piece.new.self (counted_remaining g.R.Read.remaining c.read_piece.new.reader) c.in_ok-read_piece.field-0
          c.if-not-branch.false c.in_ok-read_piece.ensures.took,
      c.in_ok-read_piece.ensures.quiet (λ e. cc) ∙ c.reading.invariant.1,
      λ before h.
          let first = c.reading.invariant.2 before h in
          let here = same_reads c.reading.self c.waiting.new.self before _ _ (ap (λ (s : PacketReader). s.turns) c.waiting.ensures.rest) refl first in
          let took = c.in_ok-read_piece.ensures.took in
          read_once c.in_ok-read_piece.field-0 c.waiting.new.self c.read_piece.new.self _ before _ _ c.if-not-branch.false took.0 took.2
          (c.in_ok-read_piece.ensures.counts (λ e. cc)) here,
    )

pub returns-in_err-read_piece-clause-reads : goal.returns-in_err-read_piece-clause-reads
returns-in_err-read_piece-clause-reads g c = λ before h.
    let first = c.reading.invariant.2 before h in
    let here = same_reads c.reading.self c.waiting.new.self before _ _ (ap (λ (s : PacketReader). s.turns) c.waiting.ensures.rest) refl first in
    let took = c.in_err-read_piece.ensures.took in
    let p = err_from_is_err_and c.from_residual.result c.from_residual.ensures.1 in
    rw (p.1, p.2)
    (all_read c.in_err-read_piece.field-0.0 c.waiting.new.self c.read_piece.new.self _ took.0 before _ _ took.2
    (λ e. c.in_err-read_piece.ensures.rests (ap Err e)) here)

pub returns-in-Some-clause-reads : goal.returns-in-Some-clause-reads
returns-in-Some-clause-reads g c = λ before h.
    same_reads c.reading.self c.waiting.new.self before _ _ (ap (λ (s : PacketReader). s.turns) c.waiting.ensures.rest) refl (c.reading.invariant.2 before h)

pub returns-in-Some-clause-most : goal.returns-in-Some-clause-most
returns-in-Some-clause-most g c = λ before h. few_reads c.reading.self before _ (c.reading.invariant.2 before h)

pub returns-in-Some-refusal-clause-most : goal.returns-in-Some-refusal-clause-most
returns-in-Some-refusal-clause-most g c = λ before h. few_reads c.reading.self before _ (c.reading.invariant.2 before h)

pub returns-in_err-read_piece-clause-most : goal.returns-in_err-read_piece-clause-most
returns-in_err-read_piece-clause-most g c = λ before h.
    let here = same_reads c.reading.self c.waiting.new.self before _ _ (ap (λ (s : PacketReader). s.turns) c.waiting.ensures.rest) refl (c.reading.invariant.2 before h) in
    few_after (Err c.in_err-read_piece.field-0.0) c.waiting.new.self before _ _
    c.in_err-read_piece.ensures.turns c.in_err-read_piece.ensures.counts c.in_err-read_piece.ensures.rests here

pub returns-then-not-branch-clause-most : goal.returns-then-not-branch-clause-most
returns-then-not-branch-clause-most g c = λ before h.
    let here = same_reads c.reading.self c.waiting.new.self before _ _ (ap (λ (s : PacketReader). s.turns) c.waiting.ensures.rest) refl (c.reading.invariant.2 before h) in
    few_after (Ok c.in_ok-read_piece.field-0) c.waiting.new.self before _ _
    c.in_ok-read_piece.ensures.turns c.in_ok-read_piece.ensures.counts c.in_ok-read_piece.ensures.rests here
