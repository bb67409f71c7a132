use Rattle.std.proofs.Common.{◌∙◌, refl, ap, sym}
use Rattle.vp_serve.specs.declared.reason.CloseReason.TheVariants.{IdleTimeout}
use Rattle.vp_serve.specs.Connections.{connection_of}
use Rattle.vp_serve.specs.ServerLoop.{LoopState, Closed}
use Rattle.vp_serve.proofs.Changes.{connection_of-without}
use Rattle.vp_serve.specs.LoopTurns.{IsIdleClosing}
use Rattle.vp_serve.proofs.Performing.{performs_one}
use Rattle.vp_serve.proofs.OneConnection.{no_some}
use Rattle.vp_serve.proofs.Timeouts.{closed_still_open, not_idle}
use Rattle.vp_serve.proofs.main_loop.close_if_idle.Goals as goal

pub returns-clause-closes : goal.returns-clause-closes
returns-clause-closes g c =
    let h = c.close.ensures.closed in
    performs_one (IsIdleClosing c.args.now) c.args.server.now c.close.new.server (Closed c.args.number c.args.now IdleTimeout h.0) (g.T.Transport.log c.args.transport.now) (g.T.Transport.log c.close.new.transport) h.1 c.close.ensures.logs refl refl

pub returns-clause-still_open : goal.returns-clause-still_open
returns-clause-still_open g c k t is = closed_still_open c.args.number c.args.server.now c.close.new.server (ap (λ (x : LoopState). x.connections) c.close.ensures.closed.1.4) k t is

pub returns-clause-gone : goal.returns-clause-gone
returns-clause-gone g c t there =
    let n = c.args.number in
    absurd (no_some (connection_of n c.close.new.server.connections) t (ap (λ (x : LoopState). connection_of n x.connections) c.close.ensures.closed.1.4 ∙ connection_of-without n c.args.server.now.connections) there)

pub returns-then-not-is_idle-clause-gone : goal.returns-then-not-is_idle-clause-gone
returns-then-not-is_idle-clause-gone g c t there = not_idle c.args.server.now.options c.args.now (connection_of c.args.number c.args.server.now.connections) t (sym c.is_idle.ensures ∙ c.if-not-is_idle.true) there
