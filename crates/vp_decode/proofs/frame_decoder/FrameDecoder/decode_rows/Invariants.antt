use Rattle.vp_decode.proofs.Words.{◌≡◌, ◌-◌, length, over, IsAfterRows, IsSameFrame}
use Rattle.vp_decode.proofs.RowsLemmas.{row_filter, row_builder}
use Rattle.vp_decode.proofs.frame_decoder.FrameDecoder.decode_rows.Given as goal

abbrev pub invariant-loop-row : goal.invariant-loop-row
invariant-loop-row g l = record {
  same : IsSameFrame l.initial.self l.self;
  some : length l.decoders ≡ length l.initial.decoders;
  rows : IsAfterRows l.initial.self.info l.initial.decoders l.row l.decoders l.self;
  picture :
      l.self.picture ≡ over (l.row - 1) (row_filter l.initial.self.info l.initial.decoders l.initial.self.picture.width l.initial.self.picture.height)
      (over l.row (row_builder l.initial.self.info l.initial.decoders l.initial.self.picture.width) l.initial.self.picture);
}
