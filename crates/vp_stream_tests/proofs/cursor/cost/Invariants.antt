use Rattle.vp_stream.specs.Cursor.{IsCursorOf}
use Rattle.vp_stream_tests.proofs.cursor.cost.Given as goal

abbrev pub invariant-loop-n : goal.invariant-loop-n
invariant-loop-n g l = IsCursorOf l.cursor l.stream
