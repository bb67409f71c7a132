use Rattle.std.proofs.Common.{◌≡◌, false}
use Rattle.vp_serve.specs.Readiness.{AreNoReadier}
use Rattle.vp_serve.specs.Parts.{FeedsThrough}
use Rattle.vp_serve.proofs.main_loop.read_files.Given as goal

abbrev pub invariant-loop-place : goal.invariant-loop-place
invariant-loop-place g l =
    FeedsThrough l.names l.grew false l.fn.server l.server (g.T.Transport.log l.fn.transport) (g.T.Transport.log l.transport)
    × (l.server.connections ≡ l.fn.server.connections)
    × AreNoReadier (g.T.Transport.readiness l.fn.transport) (g.T.Transport.readiness l.transport)
