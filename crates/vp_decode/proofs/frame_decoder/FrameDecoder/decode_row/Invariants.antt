use Rattle.vp_decode.proofs.Words.{◌≡◌, ◌<◌, Grid, Blocks, AreContextsAt, place, IsRow, IsSameFrame}
use Rattle.vp_decode.proofs.frame_decoder.FrameDecoder.decode_row.Given as goal

abbrev pub invariant-loop-column : goal.invariant-loop-column
invariant-loop-column l = record {
  same : IsSameFrame l.initial.self l.self;
  made :
      (g : Grid Blocks) → g.columns ≡ l.initial.self.info.maps.modes.columns → l.row < g.rows → AreContextsAt g (place l.row 0) l.initial.self.contexts
      → IsRow l.initial.self.info l.row l.column g l.initial.d l.d l.initial.self l.self;
}
