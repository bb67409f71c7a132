use Rattle.std.proofs.Common.{Bool, refl, subst}
use Rattle.vp_serve.specs.Parts.{IsArrival, Performs}
use Rattle.vp_serve.proofs.Performing.{performs_none, performs_more, performs_last}
use Rattle.vp_serve.proofs.Ready.{below_none, below_on}
use Rattle.vp_serve.proofs.Turning.{arrivals_grow}
use Rattle.vp_serve.proofs.turn.accept_all.Goals as goal

pub loop-init : goal.loop-init
loop-init g c = (
  performs_none (IsArrival c.args.now) c.args.server.now (g.T.Transport.log c.args.transport.now) (g.T.Transport.log c.args.transport.now) refl,
  below_none c.args.server.now.next (g.T.Transport.readiness c.args.transport.now),
)

pub loop-preserved : goal.loop-preserved
loop-preserved g c =
    let log = g.T.Transport.log in
    let ready = g.T.Transport.readiness in
    let d = c.loop.server in
    let e = c.accept_one.new.server in
    let a = log c.loop.transport in
    let b = log c.accept_one.new.transport in
    let so_far = c.loop.invariant.0 in (
      performs_more (IsArrival c.args.now) c.loop.accepted c.args.server.now d e (log c.args.transport.now) a b so_far
          (subst (λ (t : Bool). Performs (IsArrival c.args.now) t d e a b) c.if-not-accept_one.false c.accept_one.ensures.performs),
      below_on c.args.server.now.next d.next (ready c.args.transport.now) (ready c.loop.transport) (ready c.accept_one.new.transport)
          (arrivals_grow c.args.now c.args.server.now d so_far.trace so_far.is_trace so_far.kind) c.loop.invariant.1 c.accept_one.ensures.no_readier,
    )

pub returns-after-loop-clause-performs : goal.returns-after-loop-clause-performs
returns-after-loop-clause-performs g c = c.loop.invariant.0

pub returns-after-loop-clause-no_readier : goal.returns-after-loop-clause-no_readier
returns-after-loop-clause-no_readier g c = c.loop.invariant.1

pub returns-then-not-accept_one-clause-performs : goal.returns-then-not-accept_one-clause-performs
returns-then-not-accept_one-clause-performs g c =
    let log = g.T.Transport.log in
    let d = c.loop.server in
    let e = c.accept_one.new.server in
    let a = log c.loop.transport in
    let b = log c.accept_one.new.transport in
    performs_last (IsArrival c.args.now) c.loop.accepted c.args.server.now d e (log c.args.transport.now) a b c.loop.invariant.0
    (subst (λ (t : Bool). Performs (IsArrival c.args.now) t d e a b) c.if-not-accept_one.true c.accept_one.ensures.performs)

pub returns-then-not-accept_one-clause-no_readier : goal.returns-then-not-accept_one-clause-no_readier
returns-then-not-accept_one-clause-no_readier g c =
    let ready = g.T.Transport.readiness in
    let so_far = c.loop.invariant.0 in
    below_on c.args.server.now.next c.loop.server.next (ready c.args.transport.now) (ready c.loop.transport) (ready c.accept_one.new.transport)
    (arrivals_grow c.args.now c.args.server.now c.loop.server so_far.trace so_far.is_trace so_far.kind) c.loop.invariant.1 c.accept_one.ensures.no_readier
