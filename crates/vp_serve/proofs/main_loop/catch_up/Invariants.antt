use Rattle.vp_serve.specs.LoopTurns.{FollowsFiles}
use Rattle.vp_serve.proofs.main_loop.catch_up.Given as goal

abbrev pub invariant-loop-turn : goal.invariant-loop-turn
invariant-loop-turn g l = FollowsFiles l.names l.fn.server l.server (g.T.Transport.log l.fn.transport) (g.T.Transport.log l.transport)
