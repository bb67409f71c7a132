-- What a searcher searches.
use Rattle.std.specs.Prelude.{ℕ}
use Rattle.vp_base.specs.Raster.{Raster}

-- a reference plane, and the greatest row and column of a vector
pub record Searcher : Type 0 where
  pub reference : Raster
  pub range : ℕ
