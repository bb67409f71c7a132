use Rattle.std.proofs.Common.{Bool, refl, subst, arith}
use Rattle.vp_serve.specs.Parts.{IsSubmissionOf, Performs}
use Rattle.vp_serve.proofs.Performing.{performs_none, performs_more, performs_last, submits_moves}
use Rattle.vp_serve.proofs.Ready.{no_readier_none, no_readier_on}
use Rattle.vp_serve.proofs.turn.submit_all.Goals as goal

pub loop-line-init : goal.loop-line-init
loop-line-init g c =
    (performs_none (IsSubmissionOf c.args.number c.args.now) c.args.server.now (g.T.Transport.log c.args.transport.now) (g.T.Transport.log c.args.transport.now) refl, λ h. absurd (omega (arith, h)), no_readier_none (g.T.Transport.readiness c.args.transport.now))

pub loop-line-preserved : goal.loop-line-preserved
loop-line-preserved g c =
    let log = g.T.Transport.log in
    let P = IsSubmissionOf c.args.number c.args.now in
    let d = c.loop-line.server in
    let e = c.submit_one.new.server in
    let a = log c.loop-line.transport in
    let b = log c.submit_one.new.transport in (
      performs_more P c.loop-line.moved c.args.server.now d e (log c.args.transport.now) a b c.loop-line.invariant.0
          (subst (λ (t : Bool). Performs P t d e a b) c.if-not-submit_one.false c.submit_one.ensures.performs),
      λ h. refl,
      no_readier_on (g.T.Transport.readiness c.args.transport.now) (g.T.Transport.readiness c.loop-line.transport) (g.T.Transport.readiness c.submit_one.new.transport) c.loop-line.invariant.2 c.submit_one.ensures.no_readier,
    )

pub returns-then-not-submit_one-clause-performs : goal.returns-then-not-submit_one-clause-performs
returns-then-not-submit_one-clause-performs g c =
    let log = g.T.Transport.log in
    let P = IsSubmissionOf c.args.number c.args.now in
    let d = c.loop-line.server in
    let e = c.submit_one.new.server in
    let a = log c.loop-line.transport in
    let b = log c.submit_one.new.transport in
    performs_last P c.loop-line.moved c.args.server.now d e (log c.args.transport.now) a b c.loop-line.invariant.0
    (subst (λ (t : Bool). Performs P t d e a b) c.if-not-submit_one.true c.submit_one.ensures.performs)

pub returns-then-not-submit_one-clause-due : goal.returns-then-not-submit_one-clause-due
returns-then-not-submit_one-clause-due g c h = submits_moves (IsSubmissionOf c.args.number c.args.now) c.args.number c.loop-line.moved c.submit_one.result c.args.server.now c.loop-line.server (g.T.Transport.log c.args.transport.now) (g.T.Transport.log c.loop-line.transport) c.loop-line.invariant.0 c.if-not-submit_one.true c.submit_one.ensures.due h

pub returns-then-not-submit_one-clause-no_readier : goal.returns-then-not-submit_one-clause-no_readier
returns-then-not-submit_one-clause-no_readier g c =
    no_readier_on (g.T.Transport.readiness c.args.transport.now) (g.T.Transport.readiness c.loop-line.transport) (g.T.Transport.readiness c.submit_one.new.transport) c.loop-line.invariant.2 c.submit_one.ensures.no_readier
