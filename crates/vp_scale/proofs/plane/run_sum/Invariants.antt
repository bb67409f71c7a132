use Rattle.std.proofs.Common.{◌≡◌, ◌≤◌, ◌*◌, sum, take}
use Rattle.vp_scale.proofs.plane.run_sum.Given as goal

abbrev pub invariant-loop-pixel : goal.invariant-loop-pixel
invariant-loop-pixel l = record {
  value : l.total ≡ sum (take l.pixel-index l.pixel-items);
  bound : l.total ≤ 255 * l.pixel-index;
}
