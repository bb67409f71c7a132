use Rattle.std.proofs.Common.{◌++◌, ◌∙◌, [], refl, ap}
use Rattle.std.specs.Result.{result_err}
use Rattle.std.proofs.KnownBytes.{Consumes-nil, Consumes-trans}
use Rattle.std.proofs.lemmas.Result.{err_from_is_err_and}
use Rattle.vp_base.specs.Counted.{counted_remaining, counted_reads}
use Rattle.vp_base.proofs.CallLemmas.{risen_by_none}
use Rattle.vp_check.proofs.CheckLemmas.{checks_first, checks_on, ends, stops, one_read}
use Rattle.vp_check.proofs.checking.check_pieces.Goals as goal

pub loop-turn-init : goal.loop-turn-init
loop-turn-init g c = (
  (
    [],
    Consumes-nil (counted_remaining g.R.Read.remaining c.args.reader.now),
    checks_first c.args.packets.now.limits c.args.file.now c.args.packets.now c.requires.unread c.requires.fresh,
  ),
  refl,
  risen_by_none (counted_reads c.args.reader.now),
)

pub returns-in_err-goes_on-clause-checked : goal.returns-in_err-goes_on-clause-checked
returns-in_err-goes_on-clause-checked g c =
    let inv = c.loop-turn.invariant in
    let took = c.in_err-goes_on.ensures.fed in
    let left = counted_remaining g.R.Read.remaining c.read_piece.new.reader in
    let p = err_from_is_err_and c.from_residual.result c.from_residual.ensures.1 in
    rw (p.1, p.2) (
      inv.0.0 ++ took.0,
      Consumes-trans (counted_remaining g.R.Read.remaining c.args.reader.now) (counted_remaining g.R.Read.remaining c.loop-turn.reader) left inv.0.0 took.0 inv.0.1 took.1,
      stops c.args.packets.now.limits c.in_err-goes_on.field-0.0 c.loop-turn.file c.read_piece.new.file c.loop-turn.packets (inv.0.0 ++ took.0) took.0 left took.2,
    )

pub returns-in_err-take_packets-clause-checked : goal.returns-in_err-take_packets-clause-checked
returns-in_err-take_packets-clause-checked g c =
    let inv = c.loop-turn.invariant in
    let took = c.in_ok-goes_on.ensures.fed in
    let left = counted_remaining g.R.Read.remaining c.read_piece.new.reader in
    let p = err_from_is_err_and c.from_residual-in_err-take_packets.result c.from_residual-in_err-take_packets.ensures.1 in
    rw (p.1, p.2) (
      inv.0.0 ++ took.0,
      Consumes-trans (counted_remaining g.R.Read.remaining c.args.reader.now) (counted_remaining g.R.Read.remaining c.loop-turn.reader) left inv.0.0 took.0 inv.0.1 took.1,
      tt,
    )

pub returns-then-not-goes_on-clause-checked : goal.returns-then-not-goes_on-clause-checked
returns-then-not-goes_on-clause-checked g c =
    let inv = c.loop-turn.invariant in
    let took = c.in_ok-goes_on.ensures.fed in
    let left = counted_remaining g.R.Read.remaining c.read_piece.new.reader in (
      inv.0.0 ++ took.0,
      Consumes-trans (counted_remaining g.R.Read.remaining c.args.reader.now) (counted_remaining g.R.Read.remaining c.loop-turn.reader) left inv.0.0 took.0 inv.0.1 took.1,
      ends c.args.packets.now.limits c.loop-turn.file c.read_piece.new.file c.take_packets.new.file c.loop-turn.packets c.take_packets.new.self c.loop-turn._turn inv.0.0 took.0 left
          c.in_ok-goes_on.goes_on c.head.result c.err.result c.if-not-goes_on.true inv.0.2 took.2 c.in_ok-take_packets.ensures.checked c.in_ok-take_packets.ensures.taken
          c.head.ensures.value (c.err.ensures.value ∙ ap result_err c.finish.ensures.answer),
    )

pub loop-turn-preserved : goal.loop-turn-preserved
loop-turn-preserved g c =
    let inv = c.loop-turn.invariant in
    let took = c.in_ok-goes_on.ensures.fed in
    let left = counted_remaining g.R.Read.remaining c.read_piece.new.reader in (
      (
        inv.0.0 ++ took.0,
        Consumes-trans (counted_remaining g.R.Read.remaining c.args.reader.now) (counted_remaining g.R.Read.remaining c.loop-turn.reader) left inv.0.0 took.0 inv.0.1 took.1,
        checks_on c.args.packets.now.limits c.loop-turn.file c.read_piece.new.file c.take_packets.new.file c.loop-turn.packets c.take_packets.new.self c.loop-turn._turn inv.0.0 took.0 left
            c.in_ok-goes_on.goes_on c.if-not-goes_on.false inv.0.2 took.2 c.in_ok-take_packets.ensures.checked c.in_ok-take_packets.ensures.taken,
      ),
      c.in_ok-goes_on.ensures.quiet (λ e. cc) ∙ inv.1,
      one_read c.loop-turn._turn (counted_reads c.args.reader.now) (counted_reads c.loop-turn.reader) (counted_reads c.read_piece.new.reader) inv.2 c.in_ok-goes_on.ensures.reads,
    )
