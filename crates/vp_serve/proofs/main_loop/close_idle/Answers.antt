use Rattle.std.proofs.Common.{◌+◌, ℕ, Bool, Option, refl, subst, sym, arith}
use Rattle.vp_serve.specs.Turns.{IsNextOpen}
use Rattle.vp_serve.specs.Parts.{Performs}
use Rattle.vp_serve.specs.LoopTurns.{IsIdleClosing}
use Rattle.vp_serve.proofs.Performing.{performs_none, performs_on}
use Rattle.vp_serve.proofs.Timeouts.{AreNoneIdleBelow, none_idle, open_both, still_below}
use Rattle.vp_serve.proofs.Ready.{no_readier_none, no_readier_on}
use Rattle.vp_serve.proofs.main_loop.close_idle.Goals as goal

pub loop-number-init : goal.loop-number-init
loop-number-init g c = (performs_none (IsIdleClosing c.args.now) c.args.server.now (g.T.Transport.log c.args.transport.now) (g.T.Transport.log c.args.transport.now) refl, λ k t is. is, λ k t less is. absurd (omega (arith, less)), no_readier_none (g.T.Transport.readiness c.args.transport.now))

pub loop-number-preserved : goal.loop-number-preserved
loop-number-preserved g c =
    let log = g.T.Transport.log in
    let d = c.args.server.now in
    let e = c.loop-number.server in
    let f = c.close_if_idle-is_closed.new.server in
    let n = c.in-Some.number in
    let P = IsIdleClosing c.args.now in
    let next = subst (λ (o : Option ℕ). IsNextOpen c.loop-number.from e.connections o) c.in-Some.is c.next_open.ensures in
    let part = c.close_if_idle-is_closed.ensures in (
      subst (λ (t : Bool). Performs P t d f (log c.args.transport.now) (log c.close_if_idle-is_closed.new.transport)) (sym c.either-closed.ensures)
          (performs_on P c.loop-number.closed c.close_if_idle-is_closed.result d e f (log c.args.transport.now) (log c.loop-number.transport) (log c.close_if_idle-is_closed.new.transport) c.loop-number.invariant.0 part.closes),
      open_both d e f c.loop-number.invariant.1 part.still_open,
      subst (λ (j : ℕ). AreNoneIdleBelow (j + 1) c.args.now f) (sym c.from-from.ensures)
          (still_below c.loop-number.from n c.args.now e f part.closes.trace c.loop-number.invariant.2 next.2 part.closes.is_trace part.still_open part.gone),
      no_readier_on (g.T.Transport.readiness c.args.transport.now) (g.T.Transport.readiness c.loop-number.transport) (g.T.Transport.readiness c.close_if_idle-is_closed.new.transport) c.loop-number.invariant.3 part.no_readier,
    )

pub returns-clause-none : goal.returns-clause-none
returns-clause-none g c due = none_idle c.loop-number.from c.args.now c.loop-number.server c.loop-number.invariant.2 (subst (λ (o : Option ℕ). IsNextOpen c.loop-number.from c.loop-number.server.connections o) c.in_default.is c.next_open.ensures)
