use Rattle.vp_mio.specs.Sockets.{AreAsOpen}
use Rattle.vp_mio.proofs.transport.note_events.Given as goal

abbrev pub invariant-loop-event : goal.invariant-loop-event
invariant-loop-event l = AreAsOpen l.fn.sockets l.sockets
