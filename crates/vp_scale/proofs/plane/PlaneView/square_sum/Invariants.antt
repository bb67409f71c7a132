use Rattle.std.proofs.Common.{◌≡◌, ◌≤◌, ◌+◌, ◌*◌, sum}
use Rattle.vp_base.specs.Block.{numbers}
use Rattle.vp_scale.specs.Means.{nearest}
use Rattle.vp_scale.proofs.plane.PlaneView.square_sum.Given as goal

abbrev pub invariant-loop-r : goal.invariant-loop-r
invariant-loop-r l = record {
  value : l.total ≡ sum (numbers l.k l.r (λ c r. nearest l.self (l.x + c) (l.y + r)));
  bound : l.total ≤ 255 * (l.r * l.k);
}
