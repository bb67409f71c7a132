use Rattle.std.proofs.Common.{◌≡◌, ◌∙◌, refl, take, subst, sym, arith, List, ℕ, ◌∷◌, []}
use Rattle.vp_serve.specs.declared.reason.CloseReason.TheVariants.{OutOfMemory, PeerEnded, TransferFailed}
use Rattle.vp_serve.specs.Transfer.{Logs, Reads, PeerEnds, Fails, Closes}
use Rattle.vp_serve.specs.ServerLoop.{Received, Closed}
use Rattle.vp_serve.proofs.Continuing.{logs_both, prefix_of}
use Rattle.vp_serve.specs.Parts.{IsTransferOf}
use Rattle.vp_serve.proofs.Performing.{performs_one}
use Rattle.vp_serve.proofs.turn.receive.Goals as goal

pub returns-in-Bytes-clause-performs : goal.returns-in-Bytes-clause-performs
returns-in-Bytes-clause-performs g c =
    let a = g.T.Transport.log c.args.transport.now in
    let b = g.T.Transport.log c.read.new.self in
    let n = c.args.number in
    let count = c.in-Bytes.count in
    let bytes : c.from_vec.result ≡ take count c.read.new.buffer = c.from_vec.ensures ∙ c.truncate.ensures.items
    ∙ prefix_of count c.in-Ok.buffer.len c.read.new.buffer _ (omega (arith, c.in-Bytes.ensures.within, c.in-Ok.ensures, c.deref_mut.ensures.len, c.read.auto)) c.in-Bytes.ensures.within in
    performs_one (IsTransferOf c.args.number c.args.now) c.args.server.now c.received.new.self (Received n c.from_vec.result) a b c.received.ensures
    (subst (λ (l : List ℕ). Logs a b (Reads n l ∷ [])) (sym bytes) c.in-Bytes.ensures.logs) refl refl

pub returns-in-EndOfInput-clause-performs : goal.returns-in-EndOfInput-clause-performs
returns-in-EndOfInput-clause-performs g c =
    let a = g.T.Transport.log c.args.transport.now in
    let b = g.T.Transport.log c.read.new.self in
    let d = g.T.Transport.log c.close-in-EndOfInput.new.transport in
    let n = c.args.number in
    let h = c.close-in-EndOfInput.ensures.closed in
    performs_one (IsTransferOf c.args.number c.args.now) c.args.server.now c.close-in-EndOfInput.new.server (Closed n c.args.now PeerEnded h.0) a d h.1
    (logs_both a b d (PeerEnds n ∷ []) (Closes n PeerEnded ∷ []) c.in-EndOfInput.ensures.logs c.close-in-EndOfInput.ensures.logs) refl (refl, refl)

pub returns-in-Failed-clause-performs : goal.returns-in-Failed-clause-performs
returns-in-Failed-clause-performs g c =
    let a = g.T.Transport.log c.args.transport.now in
    let b = g.T.Transport.log c.read.new.self in
    let d = g.T.Transport.log c.close-in-Failed.new.transport in
    let n = c.args.number in
    let h = c.close-in-Failed.ensures.closed in
    performs_one (IsTransferOf c.args.number c.args.now) c.args.server.now c.close-in-Failed.new.server (Closed n c.args.now TransferFailed h.0) a d h.1
    (logs_both a b d (Fails n ∷ []) (Closes n TransferFailed ∷ []) c.in-Failed.ensures.logs c.close-in-Failed.ensures.logs) refl (refl, refl)

pub returns-in_default-zeroed-clause-performs : goal.returns-in_default-zeroed-clause-performs
returns-in_default-zeroed-clause-performs g c =
    let a = g.T.Transport.log c.args.transport.now in
    let d = g.T.Transport.log c.close.new.transport in
    let n = c.args.number in
    let h = c.close.ensures.closed in
    performs_one (IsTransferOf n c.args.now) c.args.server.now c.close.new.server (Closed n c.args.now OutOfMemory h.0) a d h.1 c.close.ensures.logs refl (refl, refl)
