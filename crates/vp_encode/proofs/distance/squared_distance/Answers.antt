use Rattle.std.proofs.Common.{◌∙◌}
use Rattle.vp_encode.proofs.DistanceLemmas.{distance_is}
use Rattle.vp_encode.proofs.distance.squared_distance.Goals as goal

pub returns : goal.returns
returns c =
    rw (c.plane_distance-luma.ensures.value, c.plane_distance-u.ensures.value, c.plane_distance-v.ensures.value, c.plane.ensures, c.plane-2.ensures, c.plane-3.ensures, c.plane-4.ensures, c.plane-5.ensures, c.plane-6.ensures)
    (distance_is c.args.source.now c.args.recon.now c.from.result c.from-2.result (c.from.ensures ∙ c.dim-dim.ensures.width) (c.from-2.ensures ∙ c.dim-dim.ensures.height) c.requires.width c.requires.height)
