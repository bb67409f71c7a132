use Rattle.std.proofs.Common.{◌≡◌}
use Rattle.vp_mio.proofs.sockets.Sockets.drain.Given as goal

abbrev pub invariant-loop-back : goal.invariant-loop-back
invariant-loop-back l = l.self ≡ l.fn.self
