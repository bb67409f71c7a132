use Rattle.std.proofs.Common.{◌++◌, ◌∙◌, ◌+◌, ◌-◌, ◌^◌, ◌≤◌, [], refl, ap, arith}
use Rattle.std.specs.Result.{result_err}
use Rattle.std.proofs.KnownBytes.{Consumes-nil, Consumes-trans}
use Rattle.std.proofs.lemmas.Result.{err_from_is_err_and}
use Rattle.vp_base.specs.Counted.{counted_remaining, counted_reads}
use Rattle.vp_base.proofs.CallLemmas.{risen_by_none}
use Rattle.vp_stream.specs.Stream.{Stream}
use Rattle.vp_frames.proofs.ReadLemmas.{feeds_first, unrefused, feeds_on, ends, stops, few_reads, one_read}
use Rattle.vp_frames.proofs.reading.read_pieces.Goals as goal

pub loop-turn-init : goal.loop-turn-init
loop-turn-init g c = (
  ([], Consumes-nil (counted_remaining g.R.Read.remaining c.args.reader.now), feeds_first c.args.stream.now c.requires.unread),
  refl,
  risen_by_none (counted_reads c.args.reader.now),
)

pub read_piece-requires-clause-fed : goal.read_piece-requires-clause-fed
read_piece-requires-clause-fed g c =
    let inv = c.loop-turn.invariant in
    unrefused c.args.stream.now.limits c.loop-turn.stream c.loop-turn._turn inv.0.0 inv.0.2

pub returns-in_err-read_piece-clause-read : goal.returns-in_err-read_piece-clause-read
returns-in_err-read_piece-clause-read g c =
    let inv = c.loop-turn.invariant in
    let took = c.in_err-read_piece.ensures.fed in
    let left = counted_remaining g.R.Read.remaining c.read_piece.new.reader in
    let p = err_from_is_err_and c.from_residual.result c.from_residual.ensures.1 in
    rw (p.1, p.2) (
      inv.0.0 ++ took.0,
      Consumes-trans (counted_remaining g.R.Read.remaining c.args.reader.now) (counted_remaining g.R.Read.remaining c.loop-turn.reader) left inv.0.0 took.0 inv.0.1 took.1,
      stops c.args.stream.now.limits c.in_err-read_piece.field-0.0 c.loop-turn.stream c.read_piece.new.stream c.read_piece.new.stream c.loop-turn._turn inv.0.0 took.0 left took.2,
    )

pub returns-in_err-read_piece-clause-reads : goal.returns-in_err-read_piece-clause-reads
returns-in_err-read_piece-clause-reads g c =
    let n = c.loop-turn._turn in
    let le : n + 1 ≤ 2 ^ 32 - 1 = omega arith in
    few_reads (n + 1) (counted_reads c.args.reader.now) (counted_reads c.read_piece.new.reader) le
    (one_read n (counted_reads c.args.reader.now) (counted_reads c.loop-turn.reader) (counted_reads c.read_piece.new.reader) c.loop-turn.invariant.2 c.in_err-read_piece.ensures.reads)

pub returns-in_err-read_piece-clause-turns : goal.returns-in_err-read_piece-clause-turns
returns-in_err-read_piece-clause-turns g c =
    let took = c.in_err-read_piece.ensures.fed in
    let p = err_from_is_err_and c.from_residual.result c.from_residual.ensures.1 in
    rw (p.1, p.2) (λ e. absurd (took.2 (cc)))

pub returns-then-not-branch-clause-read : goal.returns-then-not-branch-clause-read
returns-then-not-branch-clause-read g c =
    let inv = c.loop-turn.invariant in
    let took = c.in_ok-read_piece.ensures.fed in
    let left = counted_remaining g.R.Read.remaining c.read_piece.new.reader in (
      inv.0.0 ++ took.0,
      Consumes-trans (counted_remaining g.R.Read.remaining c.args.reader.now) (counted_remaining g.R.Read.remaining c.loop-turn.reader) left inv.0.0 took.0 inv.0.1 took.1,
      ends c.args.stream.now.limits c.loop-turn.stream c.read_piece.new.stream c.finish.new.self c.loop-turn._turn inv.0.0 took.0 left c.in_ok-read_piece.field-0 c.err.result
          c.if-not-branch.true inv.0.2 took.2
          (ap (λ (s : Stream). s.reading) c.finish.ensures.state)
          (c.err.ensures.value ∙ ap result_err c.finish.ensures.answer),
    )

pub returns-then-not-branch-clause-reads : goal.returns-then-not-branch-clause-reads
returns-then-not-branch-clause-reads g c =
    let n = c.loop-turn._turn in
    let le : n + 1 ≤ 2 ^ 32 - 1 = omega arith in
    few_reads (n + 1) (counted_reads c.args.reader.now) (counted_reads c.read_piece.new.reader) le
    (one_read n (counted_reads c.args.reader.now) (counted_reads c.loop-turn.reader) (counted_reads c.read_piece.new.reader) c.loop-turn.invariant.2 c.in_ok-read_piece.ensures.reads)

pub loop-turn-preserved : goal.loop-turn-preserved
loop-turn-preserved g c =
    let inv = c.loop-turn.invariant in
    let took = c.in_ok-read_piece.ensures.fed in
    let left = counted_remaining g.R.Read.remaining c.read_piece.new.reader in (
      (
        inv.0.0 ++ took.0,
        Consumes-trans (counted_remaining g.R.Read.remaining c.args.reader.now) (counted_remaining g.R.Read.remaining c.loop-turn.reader) left inv.0.0 took.0 inv.0.1 took.1,
        feeds_on c.args.stream.now.limits c.loop-turn.stream c.read_piece.new.stream c.loop-turn._turn inv.0.0 took.0 left c.in_ok-read_piece.field-0
            c.if-not-branch.false inv.0.2 took.2,
      ),
      c.in_ok-read_piece.ensures.quiet (λ e. cc) ∙ inv.1,
      one_read c.loop-turn._turn (counted_reads c.args.reader.now) (counted_reads c.loop-turn.reader) (counted_reads c.read_piece.new.reader) inv.2 c.in_ok-read_piece.ensures.reads,
    )

pub returns-clause-read : goal.returns-clause-read
returns-clause-read g c =
    let inv = c.loop-turn.invariant in
    let most = inv.0.2.turns in
    (inv.0.0, inv.0.1, omega arith)

pub returns-clause-reads : goal.returns-clause-reads
returns-clause-reads g c =
    let le : c.loop-turn._turn ≤ 2 ^ 32 - 1 = omega arith in
    few_reads c.loop-turn._turn (counted_reads c.args.reader.now) (counted_reads c.loop-turn.reader) le c.loop-turn.invariant.2
