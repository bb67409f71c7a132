use Rattle.std.proofs.Common.{◌∷◌, [], ℕ, Some, subst, refl, arith}
use Rattle.vp_serve.specs.declared.reason.CloseReason.{CloseReason}
use Rattle.vp_serve.specs.Reasons.{reason_by}
use Rattle.vp_serve.specs.Transfer.{Logs, Accepts, Closes}
use Rattle.vp_serve.specs.ServerLoop.{Accepted, Rejected}
use Rattle.vp_serve.specs.Parts.{IsArrival}
use Rattle.vp_serve.proofs.Continuing.{logs_both}
use Rattle.vp_serve.proofs.Performing.{performs_one}
use Rattle.vp_serve.proofs.Ready.{below_all, below_on, below_others}
use Rattle.vp_serve.proofs.turn.accept_one.Goals as goal

pub returns-in-Ok-clause-performs : goal.returns-in-Ok-clause-performs
returns-in-Ok-clause-performs g c =
    let a = g.T.Transport.log c.args.transport.now in
    let b = g.T.Transport.log c.accept.new.self in
    performs_one (IsArrival c.args.now) c.args.server.now c.accept-2.new.self (Accepted c.args.server.now.next c.args.now) a b c.in-Ok.ensures.ok
    (subst (λ (n : ℕ). Logs a b (Accepts n ∷ [])) c.next_number-number.ensures c.if-not-accept.ensures.logs) refl refl

pub returns-in-Err-clause-performs : goal.returns-in-Err-clause-performs
returns-in-Err-clause-performs g c =
    let a = g.T.Transport.log c.args.transport.now in
    let b = g.T.Transport.log c.accept.new.self in
    let d = g.T.Transport.log c.close.new.self in
    let n = c.next_number-number.result in
    let r = reason_by (Some c.in-Err.fault) in
    performs_one (IsArrival c.args.now) c.args.server.now c.accept-2.new.self (Rejected c.args.server.now.next c.in-Err.fault) a d c.in-Err.ensures.err
    (subst (λ (n : ℕ). Logs a d (Accepts n ∷ Closes n r ∷ [])) c.next_number-number.ensures
    (logs_both a b d (Accepts n ∷ []) (Closes n r ∷ []) c.if-not-accept.ensures.logs
    (subst (λ (x : CloseReason). Logs b d (Closes n x ∷ [])) c.reason_of.ensures c.close.ensures.logs))) refl tt

pub returns-in-Ok-clause-no_readier : goal.returns-in-Ok-clause-no_readier
returns-in-Ok-clause-no_readier g c =
    let ready = g.T.Transport.readiness in
    below_others c.args.server.now.next c.next_number-number.result (ready c.args.transport.now) (ready c.accept.new.self) c.next_number-number.ensures c.if-not-accept.ensures.others

pub returns-in-Err-clause-no_readier : goal.returns-in-Err-clause-no_readier
returns-in-Err-clause-no_readier g c =
    let ready = g.T.Transport.readiness in
    let n = c.args.server.now.next in
    below_on n n (ready c.args.transport.now) (ready c.accept.new.self) (ready c.close.new.self) (omega arith)
    (below_others n c.next_number-number.result (ready c.args.transport.now) (ready c.accept.new.self) c.next_number-number.ensures c.if-not-accept.ensures.others)
    (below_all n (ready c.accept.new.self) (ready c.close.new.self) c.close.ensures.no_readier)

pub returns-then-not-accept-clause-no_readier : goal.returns-then-not-accept-clause-no_readier
returns-then-not-accept-clause-no_readier g c =
    let ready = g.T.Transport.readiness in
    below_others c.args.server.now.next c.next_number-number.result (ready c.args.transport.now) (ready c.accept.new.self) c.next_number-number.ensures c.if-not-accept.ensures.others
