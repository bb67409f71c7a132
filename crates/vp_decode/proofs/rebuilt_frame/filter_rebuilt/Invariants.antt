use Rattle.vp_decode.proofs.Words.{◌≡◌, Place, over, Tokens, row_filtered, AreSkipsOf, level_by}
use Rattle.vp_decode.proofs.rebuilt_frame.filter_rebuilt.Given as goal

abbrev pub invariant-loop-row : goal.invariant-loop-row
invariant-loop-row g l = record {
  columns : l.levels.columns ≡ l.info.maps.modes.columns;
  rows : l.levels.rows ≡ l.info.maps.modes.rows;
  width : l.picture.width ≡ l.initial.picture.width;
  height : l.picture.height ≡ l.initial.picture.height;
  filtered : (tokens : Place → Tokens) → AreSkipsOf l.info tokens → l.picture ≡ over l.row (row_filtered (level_by l.info tokens)) l.initial.picture;
}
