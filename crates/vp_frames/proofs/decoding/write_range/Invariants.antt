use Rattle.std.proofs.Common.{◌≡◌, ◌+◌, min, length, Some}
use Rattle.vp_base.specs.Counted.{counted_contents, counted_failures}
use Rattle.vp_stream.specs.Cursor.{IsCursorOf}
use Rattle.vp_frames.proofs.CountLemmas.{IsBehind}
use Rattle.vp_frames.proofs.PacketLemmas.{IsAt}
use Rattle.vp_frames.proofs.WrittenLemmas.{answers_for}
use Rattle.vp_frames.proofs.decoding.write_range.Given as goal

abbrev pub invariant-loop-number : goal.invariant-loop-number
invariant-loop-number g l = record {
  head : l.stream.reading.head ≡ Some l.decoder.head;
  cursor : IsCursorOf l.decoder.cursor l.stream;
  behind : IsBehind l.stream.reading.packets l.fn.range.first (min (l.fn.range.last + 1) (length l.stream.reading.packets)) l.number
      l.decoder.cursor.next l.decoder.decoded;
  at : IsAt l.fn.form l.decoder.head (answers_for l.stream) l.fn.range.first l.number l.decoder.pictures l.decoder.faults
      (counted_contents g.W.Write.contents l.fn.writer) (counted_contents g.W.Write.contents l.writer);
  quiet : counted_failures l.writer ≡ counted_failures l.fn.writer;
}
