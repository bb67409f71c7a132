use Rattle.std.proofs.Common.{◌^◌, ◌-◌}
use Rattle.vp_serve.specs.Parts.{Performs}
use Rattle.vp_serve.specs.Readiness.{AreNoReadier}
use Rattle.vp_serve.specs.LoopTurns.{IsIdleClosing}
use Rattle.vp_serve.specs.Schedule.{AreStillOpen}
use Rattle.vp_serve.proofs.Timeouts.{AreNoneIdleBelow}
use Rattle.vp_serve.proofs.main_loop.close_idle.Given as goal

abbrev pub decreases-loop-number : goal.decreases-loop-number
decreases-loop-number g l = 2 ^ 32 - l.from

abbrev pub invariant-loop-number : goal.invariant-loop-number
invariant-loop-number g l =
    Performs (IsIdleClosing l.fn.now) l.closed l.fn.server l.server (g.T.Transport.log l.fn.transport) (g.T.Transport.log l.transport)
    × AreStillOpen l.fn.server.connections l.server.connections
    × AreNoneIdleBelow l.from l.fn.now l.server
    × AreNoReadier (g.T.Transport.readiness l.fn.transport) (g.T.Transport.readiness l.transport)
