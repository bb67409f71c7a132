use Rattle.vp_serve.proofs.LoopTurnLemmas.{GoesOn}
use Rattle.vp_serve.proofs.main_loop.serve.Given as goal

abbrev pub invariant-loop-turn : goal.invariant-loop-turn
invariant-loop-turn g l =
    GoesOn l.names l._turn l.schedule l.fn.server l.server (g.T.Transport.log l.fn.transport) (g.T.Transport.log l.transport)
