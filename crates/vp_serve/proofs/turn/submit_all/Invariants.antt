use Rattle.std.proofs.Common.{◌≡◌, ◌≤◌, true}
use Rattle.vp_serve.specs.Readiness.{AreNoReadier}
use Rattle.vp_serve.specs.Parts.{Performs, IsSubmissionOf}
use Rattle.vp_serve.proofs.turn.submit_all.Given as goal

abbrev pub invariant-loop-line : goal.invariant-loop-line
invariant-loop-line g l =
    Performs (IsSubmissionOf l.fn.number l.fn.now) l.moved l.fn.server l.server (g.T.Transport.log l.fn.transport) (g.T.Transport.log l.transport)
    × (1 ≤ l._line → l.moved ≡ true)
    × AreNoReadier (g.T.Transport.readiness l.fn.transport) (g.T.Transport.readiness l.transport)
