use Rattle.std.proofs.Common.{arith, refl, ap}
use Rattle.vp_base.proofs.RasterLemmas.{relaid_all, raster}
use Rattle.vp_base.proofs.plane.Plane.pixels_mut.Goals as goal

pub returns : goal.returns
returns c = rw (← c.self.view_is) (
  (refl, λ w. ap (raster c.self.inside.width c.self.inside.height) (relaid_all c.self.inside.bytes.items c.self.inside.bytes.len w c.self.inside.bytes.ok.0)),
  record { writes_back = tt; value = c.as_mut_slice.ensures.value; len = let e = c.as_mut_slice.ensures.len in let f = c.self.invariant.0 in omega arith },
)
