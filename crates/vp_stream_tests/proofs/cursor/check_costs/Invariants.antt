use Rattle.vp_stream.specs.Cursor.{IsCursorOf}
use Rattle.vp_stream_tests.proofs.cursor.check_costs.Given as goal

abbrev pub invariant-loop-numbers : goal.invariant-loop-numbers
invariant-loop-numbers g l = IsCursorOf l.cursor l.stream
