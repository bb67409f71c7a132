use Rattle.std.proofs.Common.{take}
use Rattle.vp_serve.specs.Turns.{IsNextOpen}
use Rattle.vp_serve.proofs.connection.next_open.Given as goal

abbrev pub invariant-loop-connection : goal.invariant-loop-connection
invariant-loop-connection l = IsNextOpen l.from (take l.connection-index l.connections) l.next
