use Rattle.std.proofs.Common.{◌≡◌}
use Rattle.vp_base.specs.Block.{with_block}
use Rattle.vp_base.specs.Image.{plane_of, with_plane}
use Rattle.vp_scale.specs.Means.{mean_at}
use Rattle.vp_scale.proofs.scaling.scale_plane.Given as goal

abbrev pub invariant-loop-y : goal.invariant-loop-y
invariant-loop-y l = l.picture ≡ with_plane l.initial.picture l.to (with_block (plane_of l.initial.picture l.to) 0 0 l.width l.y (λ r c. mean_at l.k l.plane c r))
