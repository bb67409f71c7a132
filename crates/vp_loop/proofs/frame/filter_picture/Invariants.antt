use Rattle.std.proofs.Common.{◌≡◌}
use Rattle.vp_base.specs.Image.{macroblocks}
use Rattle.vp_base.specs.Over.{over}
use Rattle.vp_loop.specs.Filtered.{row_filtered, level_in}
use Rattle.vp_loop.proofs.frame.filter_picture.Given as goal

abbrev pub invariant-loop-row : goal.invariant-loop-row
invariant-loop-row l = record {
  done : l.picture ≡ over l.row (row_filtered (level_in l.levels (macroblocks l.initial.picture.width))) l.initial.picture;
  width : l.picture.width ≡ l.initial.picture.width;
  height : l.picture.height ≡ l.initial.picture.height;
}
