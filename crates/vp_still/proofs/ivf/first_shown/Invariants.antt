use Rattle.std.proofs.Common.{◌<◌, ℕ}
use Rattle.vp_stream.specs.Cursor.{IsCursorOf}
use Rattle.vp_stream.specs.Seeking.{answer_at}
use Rattle.vp_still.specs.Found.{IsUnshown}
use Rattle.vp_still.proofs.ivf.first_shown.Given as goal

abbrev pub invariant-loop-number : goal.invariant-loop-number
invariant-loop-number l = record {
  cursor : IsCursorOf l.cursor l.stream;
  unshown : (k : ℕ) → k < l.number → IsUnshown (answer_at l.stream.limits l.stream.reading.packets k);
}
