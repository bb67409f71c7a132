use Rattle.std.proofs.Common.{◌≡◌, ◌*◌, ◌≤◌}
use Rattle.vp_base.specs.Raster.{pixel}
use Rattle.vp_base.specs.Block.{numbers}
use Rattle.vp_search.specs.Differences.{sum_of_squares}
use Rattle.vp_encode.proofs.distance.plane_distance.Given as goal

abbrev pub invariant-loop-y : goal.invariant-loop-y
invariant-loop-y l = record {
  value : l.sum ≡ sum_of_squares (numbers l.width l.y (pixel l.a)) (numbers l.width l.y (pixel l.b));
  bound : l.sum ≤ 65025 * (l.y * l.width);
}
