use Rattle.std.proofs.Common.{take, subst, refl, List, ℕ, ◌∷◌, []}
use Rattle.vp_serve.specs.declared.reason.CloseReason.TheVariants.{TransferFailed}
use Rattle.vp_serve.specs.Transfer.{Logs, Writes, Fails, Closes}
use Rattle.vp_serve.specs.Connections.{unsent_of}
use Rattle.vp_serve.specs.ServerLoop.{Sent, Closed}
use Rattle.vp_serve.proofs.Continuing.{logs_both}
use Rattle.vp_serve.specs.Parts.{IsTransferOf}
use Rattle.vp_serve.proofs.Performing.{performs_one}
use Rattle.vp_serve.proofs.turn.send.Goals as goal

pub returns-in-Bytes-clause-performs : goal.returns-in-Bytes-clause-performs
returns-in-Bytes-clause-performs g c =
    let a = g.T.Transport.log c.args.transport.now in
    let b = g.T.Transport.log c.write.new.self in
    let n = c.args.number in
    let count = c.in-Bytes.count in
    performs_one (IsTransferOf c.args.number c.args.now) c.args.server.now c.sent.new.self (Sent n c.args.now (take count (unsent_of n c.args.server.now.connections))) a b c.sent.ensures
    (subst (λ (l : List ℕ). Logs a b (Writes n (take count l) ∷ [])) c.unsent.ensures c.in-Bytes.ensures.logs) refl (refl, refl)

pub returns-in-Failed-clause-performs : goal.returns-in-Failed-clause-performs
returns-in-Failed-clause-performs g c =
    let a = g.T.Transport.log c.args.transport.now in
    let b = g.T.Transport.log c.write.new.self in
    let d = g.T.Transport.log c.close.new.transport in
    let n = c.args.number in
    let h = c.close.ensures.closed in
    performs_one (IsTransferOf c.args.number c.args.now) c.args.server.now c.close.new.server (Closed n c.args.now TransferFailed h.0) a d h.1
    (logs_both a b d (Fails n ∷ []) (Closes n TransferFailed ∷ []) c.in-Failed.ensures.logs c.close.ensures.logs) refl (refl, refl)
