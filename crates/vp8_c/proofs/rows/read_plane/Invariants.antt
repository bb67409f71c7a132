use Rattle.vp8_c.specs.Planes.{ReadsPlane}
use Rattle.vp8_c.proofs.rows.read_plane.Given as goal

abbrev pub invariant-loop-y : goal.invariant-loop-y
invariant-loop-y l = ReadsPlane (record l.layout { height = l.y }) l.bytes l.k l.initial.picture l.picture
