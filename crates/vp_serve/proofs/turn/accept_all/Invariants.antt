use Rattle.vp_serve.specs.Parts.{AreNoReadierBelow, Performs, IsArrival}
use Rattle.vp_serve.proofs.turn.accept_all.Given as goal

abbrev pub invariant-loop : goal.invariant-loop
invariant-loop g l =
    Performs (IsArrival l.fn.now) l.accepted l.fn.server l.server (g.T.Transport.log l.fn.transport) (g.T.Transport.log l.transport)
    × AreNoReadierBelow l.fn.server.next (g.T.Transport.readiness l.fn.transport) (g.T.Transport.readiness l.transport)
