use Rattle.vp_decode.proofs.Words.{◌≡◌, AreRowLevels}
use Rattle.vp_decode.proofs.rebuilt_frame.set_levels.Given as goal

abbrev pub invariant-loop-column : goal.invariant-loop-column
invariant-loop-column l = record {
  columns : l.levels.columns ≡ l.initial.levels.columns;
  rows : l.levels.rows ≡ l.initial.levels.rows;
  set : AreRowLevels l.info l.row l.column l.levels;
}
