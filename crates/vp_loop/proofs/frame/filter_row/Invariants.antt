use Rattle.std.proofs.Common.{◌≡◌}
use Rattle.vp_base.specs.Over.{over}
use Rattle.vp_loop.specs.Filtered.{level_in}
use Rattle.vp_loop.proofs.FrameLemmas.{filtered_at}
use Rattle.vp_loop.proofs.frame.filter_row.Given as goal

abbrev pub invariant-loop-column : goal.invariant-loop-column
invariant-loop-column l = record {
  done : l.picture ≡ over l.column (filtered_at (level_in l.levels l.cols) l.row) l.initial.picture;
  width : l.picture.width ≡ l.initial.picture.width;
  height : l.picture.height ≡ l.initial.picture.height;
}
