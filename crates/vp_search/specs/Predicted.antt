-- The law that a vector in whole pixels predicts the same block as the same vector in quarter pixels.
use Rattle.std.specs.Prelude.{◌≡◌, ℕ, ℤ, ◌≤◌}
use Rattle.vp_base.specs.declared.place.Place.{Place}
use Rattle.vp_base.specs.Raster.{Raster}
use Rattle.vp_inter.specs.Inter.{reference_pixel}
use Rattle.vp_search.specs.declared.vector.WholeVector.{WholeVector}
use Rattle.vp_search.specs.Vectors.{quarters}
use Rattle.vp_search.specs.Blocks.{whole_cost, quarter_cost}

-- In a plane of bytes, a vector in whole pixels has the same cost as the same vector in quarter pixels.
abbrev pub WholeIsPredicted : Type 0
WholeIsPredicted = (f : ℕ → ℕ → ℕ) (p : Raster) (place : Place) (v : WholeVector)
    → ((x y : ℤ) → reference_pixel p x y ≤ 255)
    → whole_cost f p place v ≡ quarter_cost f p place (quarters v)
