use Rattle.std.proofs.Common.{refl, subst, true}
use Rattle.vp_serve.specs.declared.reason.CloseReason.TheVariants.{OutOfMemory}
use Rattle.vp_serve.specs.ServerLoop.{LoopState, Submitted, Closed}
use Rattle.vp_serve.specs.Parts.{IsSubmissionOf, Performs}
use Rattle.vp_serve.proofs.Continuing.{logs_none}
use Rattle.vp_serve.proofs.Performing.{performs_one}
use Rattle.vp_serve.proofs.turn.submit_one.Goals as goal

pub returns-in-Ok-clause-performs : goal.returns-in-Ok-clause-performs
returns-in-Ok-clause-performs g c =
    let a = g.T.Transport.log c.args.transport.now in
    let b = g.T.Transport.log c.tell_reply.new.transport in
    let h = c.in-Ok.ensures.ok in
    performs_one (IsSubmissionOf c.args.number c.args.now) c.args.server.now c.submit.new.self (Submitted c.args.number c.args.now h.0 h.1) a b h.2 (logs_none a b c.tell_reply.ensures.logs) refl (refl, refl)

pub returns-in-Err-clause-performs : goal.returns-in-Err-clause-performs
returns-in-Err-clause-performs g c =
    let a = g.T.Transport.log c.args.transport.now in
    let b = g.T.Transport.log c.close.new.transport in
    let h = c.close.ensures.closed in
    let P = IsSubmissionOf c.args.number c.args.now in
    subst (λ (x : LoopState). Performs P true x c.close.new.server a b) c.in-Err.ensures.err
    (performs_one P c.submit.new.self c.close.new.server (Closed c.args.number c.args.now OutOfMemory h.0) a b h.1 c.close.ensures.logs refl (refl, refl))
