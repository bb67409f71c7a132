use Rattle.std.proofs.Common.{◌++◌, ◌∷◌, ◌∙◌, [], List, refl, ap, sym, subst}
use Rattle.vp_serve.specs.Transfer.{Transfer, Logs, Closes}
use Rattle.vp_serve.specs.Transport.{causes}
use Rattle.vp_serve.specs.Connections.{connection_of}
use Rattle.vp_serve.specs.ServerLoop.{LoopState, Closed}
use Rattle.vp_serve.proofs.Changes.{connection_of-without}
use Rattle.vp_serve.proofs.Continuing.{no_cause}
use Rattle.vp_serve.specs.Parts.{IsTransferOf}
use Rattle.vp_serve.proofs.Performing.{performs_one}
use Rattle.vp_serve.proofs.OneConnection.{no_some}
use Rattle.vp_serve.proofs.turn.close_finished.Goals as goal

pub returns-clause-performs : goal.returns-clause-performs
returns-clause-performs g c =
    let a = g.T.Transport.log c.args.transport.now in
    let b = g.T.Transport.log c.close.new.transport in
    let n = c.args.number in
    let r = c.reason_of-reason.result in
    let h = c.close.ensures.closed in
    performs_one (IsTransferOf c.args.number c.args.now) c.args.server.now c.close.new.server (Closed n c.args.now r h.0) a b h.1
    (subst (λ (ts : List Transfer). Logs a b (ts ++ Closes n r ∷ [])) (sym (ap (causes n) c.reason_of-reason.ensures ∙ no_cause n c.fault.result)) c.close.ensures.logs) refl (refl, refl)

pub returns-clause-closed : goal.returns-clause-closed
returns-clause-closed g c =
    let n = c.args.number in
    let is = c.close.ensures.closed.1 in
    λ t there. absurd (no_some (connection_of n c.close.new.server.connections) t (ap (λ (x : LoopState). connection_of n x.connections) is.4 ∙ connection_of-without n c.args.server.now.connections) there)
