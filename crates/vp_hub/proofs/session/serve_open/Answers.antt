use Rattle.std.proofs.Common.{◌≡◌, ◌≤◌, ◌∙◌, ◌+◌, ◌^◌, ◌++◌, [], ℕ, Bool, Result, Ok, Err, refl, sym, subst, arith}
use Rattle.std.proofs.KnownBytes.{Consumes-nil, Consumes-trans}
use Rattle.std.proofs.lemmas.Result.{err_from_is_err_and}
use Rattle.vp_base.specs.Counted.{counted_remaining, counted_contents, counted_failures, counted_reads, HasFailed, HasRisenBy}
use Rattle.vp_base.proofs.CallLemmas.{risen_by_none, risen_by_one_more}
use Rattle.vp_hub.specs.declared.session.ServeFault.{ServeFault}
use Rattle.vp_hub.specs.declared.session.ServeFault.TheVariants.{Device}
use Rattle.vp_hub.specs.Sessions.{Exchanges}
use Rattle.vp_hub.proofs.Visiting.{begins_talking, ends_faulty, ends_well, talks_on, runs_out, risen_at_most, one_read_more}
use Rattle.vp_hub.proofs.session.serve_open.Goals as goal

-- what was answered is no failed device
no_failure : (more : Bool) → ◌≡◌ {A = Result Bool ServeFault} (Ok more) (Err Device) → ⊥
no_failure more e = cc

all_turns : (n most : ℕ) → most ≤ n → n ≤ most → n ≡ most
all_turns n most least turns = omega (arith, least, turns)

pub loop-turn-init : goal.loop-turn-init
loop-turn-init g c = (
  [],
  Consumes-nil (counted_remaining g.R.Read.remaining c.args.reader.now),
  begins_talking c.args.conn c.args.hub.now (counted_contents g.W.Write.contents c.args.writer.now) c.requires,
  refl,
  refl,
  risen_by_none (counted_reads c.args.reader.now),
)

pub returns-in_err-exchange-clause-talked : goal.returns-in_err-exchange-clause-talked
returns-in_err-exchange-clause-talked g c =
    let inv = c.loop-turn.invariant in
    let now = c.in_err-exchange.ensures.exchanged in
    let p = err_from_is_err_and c.from_residual.result c.from_residual.ensures.1 in
    let then = counted_contents g.W.Write.contents c.exchange.new.writer in
    let left = counted_remaining g.R.Read.remaining c.exchange.new.reader in
    let mid = counted_contents g.W.Write.contents c.loop-turn.writer in
    let x = subst (λ n. Exchanges c.args.conn c.loop-turn.hub c.exchange.new.hub (Err c.in_err-exchange.field-0.0) now.0 left mid then (HasFailed n (counted_failures c.exchange.new.writer))) inv.4 now.2 in
    rw (p.1, p.2) (
      inv.0 ++ now.0,
      Consumes-trans (counted_remaining g.R.Read.remaining c.args.reader.now) (counted_remaining g.R.Read.remaining c.loop-turn.reader) left inv.0 now.0 inv.1 now.1,
      (ends_faulty c.args.conn c.args.hub.now c.loop-turn.hub c.exchange.new.hub c.requires inv.0 now.0 (counted_contents g.W.Write.contents c.args.writer.now) mid then left c.loop-turn._turn
          (HasFailed (counted_failures c.args.writer.now) (counted_failures c.exchange.new.writer)) inv.2 c.in_err-exchange.field-0.0 x).0,
    )

pub returns-in_err-exchange-clause-apart : goal.returns-in_err-exchange-clause-apart
returns-in_err-exchange-clause-apart g c =
    let inv = c.loop-turn.invariant in
    let now = c.in_err-exchange.ensures.exchanged in
    (ends_faulty c.args.conn c.args.hub.now c.loop-turn.hub c.exchange.new.hub c.requires inv.0 now.0 (counted_contents g.W.Write.contents c.args.writer.now) (counted_contents g.W.Write.contents c.loop-turn.writer)
    (counted_contents g.W.Write.contents c.exchange.new.writer) (counted_remaining g.R.Read.remaining c.exchange.new.reader) c.loop-turn._turn
    (HasFailed (counted_failures c.loop-turn.writer) (counted_failures c.exchange.new.writer)) inv.2 c.in_err-exchange.field-0.0 now.2).1

pub returns-then-not-branch-clause-talked : goal.returns-then-not-branch-clause-talked
returns-then-not-branch-clause-talked g c =
    let inv = c.loop-turn.invariant in
    let now = c.in_ok-exchange.ensures.exchanged in
    let then = counted_contents g.W.Write.contents c.exchange.new.writer in
    let left = counted_remaining g.R.Read.remaining c.exchange.new.reader in
    let mid = counted_contents g.W.Write.contents c.loop-turn.writer in
    let x = subst (λ n. Exchanges c.args.conn c.loop-turn.hub c.exchange.new.hub (Ok c.in_ok-exchange.field-0) now.0 left mid then (HasFailed n (counted_failures c.exchange.new.writer))) inv.4 now.2 in (
      inv.0 ++ now.0,
      Consumes-trans (counted_remaining g.R.Read.remaining c.args.reader.now) (counted_remaining g.R.Read.remaining c.loop-turn.reader) left inv.0 now.0 inv.1 now.1,
      (ends_well c.args.conn c.args.hub.now c.loop-turn.hub c.exchange.new.hub c.requires inv.0 now.0 (counted_contents g.W.Write.contents c.args.writer.now) mid then left c.loop-turn._turn
          (HasFailed (counted_failures c.args.writer.now) (counted_failures c.exchange.new.writer)) inv.2 c.in_ok-exchange.field-0 c.if-not-branch.true x).0,
    )

pub returns-then-not-branch-clause-apart : goal.returns-then-not-branch-clause-apart
returns-then-not-branch-clause-apart g c =
    let inv = c.loop-turn.invariant in
    let now = c.in_ok-exchange.ensures.exchanged in
    (ends_well c.args.conn c.args.hub.now c.loop-turn.hub c.exchange.new.hub c.requires inv.0 now.0 (counted_contents g.W.Write.contents c.args.writer.now) (counted_contents g.W.Write.contents c.loop-turn.writer)
    (counted_contents g.W.Write.contents c.exchange.new.writer) (counted_remaining g.R.Read.remaining c.exchange.new.reader) c.loop-turn._turn
    (HasFailed (counted_failures c.loop-turn.writer) (counted_failures c.exchange.new.writer)) inv.2 c.in_ok-exchange.field-0 c.if-not-branch.true now.2).1

pub loop-turn-preserved : goal.loop-turn-preserved
loop-turn-preserved g c =
    let inv = c.loop-turn.invariant in
    let now = c.in_ok-exchange.ensures.exchanged in
    let left = counted_remaining g.R.Read.remaining c.exchange.new.reader in (
      inv.0 ++ now.0,
      Consumes-trans (counted_remaining g.R.Read.remaining c.args.reader.now) (counted_remaining g.R.Read.remaining c.loop-turn.reader) left inv.0 now.0 inv.1 now.1,
      talks_on c.args.conn c.args.hub.now c.loop-turn.hub c.exchange.new.hub c.requires inv.0 now.0 (counted_contents g.W.Write.contents c.args.writer.now) (counted_contents g.W.Write.contents c.loop-turn.writer)
          (counted_contents g.W.Write.contents c.exchange.new.writer) left c.loop-turn._turn
          (HasFailed (counted_failures c.loop-turn.writer) (counted_failures c.exchange.new.writer)) inv.2 c.in_ok-exchange.field-0 c.if-not-branch.false now.2,
      (c.in_ok-exchange.ensures.quiet (no_failure c.in_ok-exchange.field-0)).0 ∙ inv.3,
      (c.in_ok-exchange.ensures.quiet (no_failure c.in_ok-exchange.field-0)).1 ∙ inv.4,
      subst (λ n. HasRisenBy (c.loop-turn._turn + 1) (counted_reads c.args.reader.now) n) (sym c.in_ok-exchange.ensures.counts)
          (risen_by_one_more c.loop-turn._turn (counted_reads c.args.reader.now) (counted_reads c.loop-turn.reader) inv.5),
    )

pub returns-in_err-exchange-clause-reads : goal.returns-in_err-exchange-clause-reads
returns-in_err-exchange-clause-reads g c =
    one_read_more c.loop-turn._turn (2 ^ 20) (counted_reads c.args.reader.now) (counted_reads c.loop-turn.reader) (counted_reads c.exchange.new.reader)
    c.loop-turn-test.true c.loop-turn.invariant.5 c.in_err-exchange.ensures.counts

pub returns-then-not-branch-clause-reads : goal.returns-then-not-branch-clause-reads
returns-then-not-branch-clause-reads g c =
    one_read_more c.loop-turn._turn (2 ^ 20) (counted_reads c.args.reader.now) (counted_reads c.loop-turn.reader) (counted_reads c.exchange.new.reader)
    c.loop-turn-test.true c.loop-turn.invariant.5 c.in_ok-exchange.ensures.counts

pub returns-clause-reads : goal.returns-clause-reads
returns-clause-reads g c =
    subst (λ n. counted_reads c.loop-turn.reader ≤ counted_reads c.args.reader.now + n)
    (all_turns c.loop-turn._turn (2 ^ 20) c.loop-turn-test.false c.loop-turn.auto._turn-end)
    (risen_at_most c.loop-turn._turn (counted_reads c.args.reader.now) (counted_reads c.loop-turn.reader) c.loop-turn.invariant.5)

pub returns-clause-turns : goal.returns-clause-turns
returns-clause-turns g c =
    let all = all_turns c.loop-turn._turn (2 ^ 20) c.loop-turn-test.false c.loop-turn.auto._turn-end in
    λ e. subst (λ n. HasRisenBy n (counted_reads c.args.reader.now) (counted_reads c.loop-turn.reader)) all c.loop-turn.invariant.5

pub returns-clause-talked : goal.returns-clause-talked
returns-clause-talked g c =
    let inv = c.loop-turn.invariant in (
      inv.0,
      inv.1,
      runs_out c.args.conn c.args.hub.now c.loop-turn.hub c.requires inv.0 (counted_contents g.W.Write.contents c.args.writer.now) (counted_contents g.W.Write.contents c.loop-turn.writer)
          (counted_remaining g.R.Read.remaining c.loop-turn.reader) c.loop-turn._turn (HasFailed (counted_failures c.args.writer.now) (counted_failures c.loop-turn.writer)) inv.2
          (all_turns c.loop-turn._turn (2 ^ 20) c.loop-turn-test.false c.loop-turn.auto._turn-end),
    )
