use Rattle.std.proofs.Common.{◌≡◌, ℕ, ◌+◌, ◌*◌, ◌<◌, get_or, length}
use Rattle.vp_base.specs.Raster.{pixel}
use Rattle.vp_search.proofs.block.cut_block.Given as goal

abbrev pub invariant-loop-r : goal.invariant-loop-r
invariant-loop-r g l = record {
  size : length l.pixels ≡ g.row.AREA;
  done : (k c : ℕ) → k < l.r → c < g.row.SIDE → get_or l.pixels (k * g.row.SIDE + c) 0 ≡ pixel l.plane (g.row.SIDE * l.place.column + c) (g.row.SIDE * l.place.row + k);
}
