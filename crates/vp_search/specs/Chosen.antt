-- Private to the crate: what a search below a limit finds.
use Rattle.std.specs.Prelude.{◌≡◌, ℕ, ◌<◌, ◌≤◌}
use Rattle.vp_base.specs.declared.place.Place.{Place}
use Rattle.vp_base.specs.Raster.{Raster}
use Rattle.vp_search.specs.declared.vector.WholeVector.{WholeVector}
use Rattle.vp_search.specs.declared.vector.Found.{Found}
use Rattle.vp_search.specs.Vectors.{quarters, IsNear}
use Rattle.vp_search.specs.Blocks.{whole_cost, quarter_cost}
use Rattle.vp_search.specs.Least.{IsLeast}

-- the best vector of a reference for block f if it costs less than the limit; none costs less than what is found
pub record IsChosen (f : ℕ → ℕ → ℕ) (p : Raster) (place : Place) (range limit : ℕ) (found : Found) : Type 0 where
  pub cost : found.cost < limit → found.cost ≡ whole_cost f p place found.vector
  pub least : found.cost < limit → IsLeast range (whole_cost f p place) found.vector
  pub predicted : found.cost < limit → found.cost ≡ quarter_cost f p place (quarters found.vector)
  pub over : (v : WholeVector) → IsNear range v → found.cost ≤ quarter_cost f p place (quarters v)
