use Rattle.std.proofs.Common.{◌||◌, ◌∙◌, Bool, sym, subst}
use Rattle.vp_serve.specs.Parts.{IsTransferOf, IsSubmissionOf}
use Rattle.vp_serve.specs.Turns.{AttendsOne}
use Rattle.vp_serve.proofs.Performing.{attends, continues, due_moves, either_of, still, still_of}
use Rattle.vp_serve.proofs.Ready.{no_readier_on, quiet_both, ready_moves}
use Rattle.vp_serve.proofs.turn.attend.Goals as goal

pub returns-clause-own : goal.returns-clause-own
returns-clause-own g c =
    let log = g.T.Transport.log in
    let first = c.send-sent.new in
    let then = c.receive-received.new in
    let next = c.submit_all-submitted.new in
    let late = c.send-replied.new in
    let last = c.close_finished-closed.new in
    let a = log c.args.transport.now in
    subst (λ (t : Bool). AttendsOne c.args.number c.args.now t c.args.server.now last.server a (log last.transport))
    (sym (either_of c.send-sent.result c.receive-received.result c.submit_all-submitted.result c.send-replied.result c.close_finished-closed.result c.either.result c.either-2.result c.either-3.result c.either-4.result c.either.ensures c.either-2.ensures c.either-3.ensures c.either-4.ensures))
    (attends c.args.number c.args.now c.send-sent.result c.receive-received.result c.submit_all-submitted.result c.send-replied.result c.close_finished-closed.result
    c.args.server.now first.server then.server next.server late.server last.server a (log first.transport) (log then.transport) (log next.transport) (log late.transport) (log last.transport)
    c.send-sent.ensures.performs c.receive-received.ensures.performs c.submit_all-submitted.ensures.performs c.send-replied.ensures.performs c.close_finished-closed.ensures.performs)

pub returns-clause-continues : goal.returns-clause-continues
returns-clause-continues g c =
    let log = g.T.Transport.log in
    continues c.args.number c.args.now c.either-4.result c.args.server.now c.close_finished-closed.new.server (log c.args.transport.now) (log c.close_finished-closed.new.transport) (returns-clause-own g c)

pub returns-clause-closed : goal.returns-clause-closed
returns-clause-closed g c = c.close_finished-closed.ensures.closed

pub returns-clause-still : goal.returns-clause-still
returns-clause-still g c h =
    let own = returns-clause-own g c in
    still_of c.args.server.now c.close_finished-closed.new.server own.trace own.is_trace (own.moves ∙ h)

pub returns-clause-due : goal.returns-clause-due
returns-clause-due g c h =
    let log = g.T.Transport.log in
    let first = c.send-sent.new in
    let then = c.receive-received.new in
    let next = c.submit_all-submitted.new in
    let late = c.send-replied.new in
    let s = c.send-sent.result in
    let r = c.receive-received.result in
    let m = c.submit_all-submitted.result in
    let p = c.send-replied.result in
    let k = c.close_finished-closed.result in
    let T = IsTransferOf c.args.number c.args.now in
    let d = c.args.server.now in
    either_of s r m p k c.either.result c.either-2.result c.either-3.result c.either-4.result c.either.ensures c.either-2.ensures c.either-3.ensures c.either-4.ensures
    ∙ due_moves c.args.number s r m p k d first.server then.server next.server late.server
    (still T s d first.server (log c.args.transport.now) (log first.transport) c.send-sent.ensures.performs)
    (still T r first.server then.server (log first.transport) (log then.transport) c.receive-received.ensures.performs)
    (still (IsSubmissionOf c.args.number c.args.now) m then.server next.server (log then.transport) (log next.transport) c.submit_all-submitted.ensures.performs)
    (still T p next.server late.server (log next.transport) (log late.transport) c.send-replied.ensures.performs)
    c.submit_all-submitted.ensures.due c.close_finished-closed.ensures.due h

pub returns-clause-no_readier : goal.returns-clause-no_readier
returns-clause-no_readier g c =
    let r = g.T.Transport.readiness in
    let last = r c.close_finished-closed.new.transport in
    no_readier_on (r c.args.transport.now) (r c.send-sent.new.transport) last c.send-sent.ensures.no_readier
    (no_readier_on (r c.send-sent.new.transport) (r c.receive-received.new.transport) last c.receive-received.ensures.no_readier
    (no_readier_on (r c.receive-received.new.transport) (r c.submit_all-submitted.new.transport) last c.submit_all-submitted.ensures.no_readier
    (no_readier_on (r c.submit_all-submitted.new.transport) (r c.send-replied.new.transport) last c.send-replied.ensures.no_readier c.close_finished-closed.ensures.no_readier)))

pub returns-clause-ready : goal.returns-clause-ready
returns-clause-ready g c =
    let log = g.T.Transport.log in
    let q = g.T.Transport.readiness in
    let first = c.send-sent.new in
    let then = c.receive-received.new in
    let next = c.submit_all-submitted.new in
    let late = c.send-replied.new in
    let last = c.close_finished-closed.new in
    let s = c.send-sent.result in
    let r = c.receive-received.result in
    let m = c.submit_all-submitted.result in
    let p = c.send-replied.result in
    let k = c.close_finished-closed.result in
    let d = c.args.server.now in
    let whole = either_of s r m p k c.either.result c.either-2.result c.either-3.result c.either-4.result c.either.ensures c.either-2.ensures c.either-3.ensures c.either-4.ensures in
    let back = no_readier_on (q then.transport) (q next.transport) (q last.transport) c.submit_all-submitted.ensures.no_readier
    (no_readier_on (q next.transport) (q late.transport) (q last.transport) c.send-replied.ensures.no_readier c.close_finished-closed.ensures.no_readier) in
    ready_moves c.args.number s r c.either-4.result d first.server last.server (q first.transport) (q then.transport) (q last.transport)
    (λ e. quiet_both s r (m || (p || k)) (sym whole ∙ e))
    (still (IsTransferOf c.args.number c.args.now) s d first.server (log c.args.transport.now) (log first.transport) c.send-sent.ensures.performs)
    (returns-clause-still g c) (returns-clause-due g c) c.send-sent.ensures.blocks c.receive-received.ensures.blocks
    (no_readier_on (q first.transport) (q then.transport) (q last.transport) c.receive-received.ensures.no_readier back) back
