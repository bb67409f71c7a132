use Rattle.std.proofs.Common.{◌≡◌}
use Rattle.vp_base.specs.Image.{plane_of, with_plane}
use Rattle.vp_base.specs.Over.{over}
use Rattle.vp_encode.specs.Continued.{row_continued}
use Rattle.vp_encode.proofs.source.continue_plane.Given as goal

abbrev pub invariant-loop-y : goal.invariant-loop-y
invariant-loop-y l = l.picture ≡ with_plane l.initial.picture l.k (over l.y (row_continued l.width l.height l.source) (plane_of l.initial.picture l.k))
