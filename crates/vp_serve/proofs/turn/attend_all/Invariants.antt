use Rattle.std.proofs.Common.{◌^◌, ◌-◌, ◌≡◌, false}
use Rattle.vp_serve.proofs.Turning.{TurnSoFar}
use Rattle.vp_serve.proofs.turn.attend_all.Given as goal

abbrev pub decreases-loop-number : goal.decreases-loop-number
decreases-loop-number g l = 2 ^ 32 - l.from

abbrev pub invariant-loop-number : goal.invariant-loop-number
invariant-loop-number g l =
    TurnSoFar l.from l.fn.now l.moved l.fn.server l.server (g.T.Transport.log l.fn.transport) (g.T.Transport.log l.transport) (g.T.Transport.readiness l.fn.transport) (g.T.Transport.readiness l.transport)
    × (l.moved ≡ false → l.server ≡ l.fn.server)
