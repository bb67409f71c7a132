use Rattle.vp_base.specs.Raster.{pixel}
use Rattle.vp8_c.specs.Planes.{HoldsRows}
use Rattle.vp8_c.proofs.rows.copy_plane.Given as goal

abbrev pub invariant-loop-y : goal.invariant-loop-y
invariant-loop-y l = HoldsRows (record l.layout { height = l.y }) (pixel l.plane) l.initial.out l.out
