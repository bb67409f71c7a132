-- Whether two planes or pictures have equal pixels above a row, or from a row on. Used by the laws of the loop filter
-- and of reconstruction.
use Rattle.std.specs.Prelude.{◌≡◌, ◌<◌, ◌≤◌, ℕ}
use Rattle.vp_base.specs.Raster.{Raster, pixel}
use Rattle.vp_base.specs.Image.{Image}

-- p and q have the same pixels above row k
abbrev pub IsSameAbove : ℕ → Raster → Raster → Type 0
IsSameAbove k p q = (u v : ℕ) → u < p.width → v < p.height → v < k → pixel p u v ≡ pixel q u v

-- p and q have the same pixels from row k on
abbrev pub IsSameFrom : ℕ → Raster → Raster → Type 0
IsSameFrom k p q = (u v : ℕ) → u < p.width → v < p.height → k ≤ v → pixel p u v ≡ pixel q u v

-- p and q have the same pixels above luma row a and chroma row b
pub record AreSameAbove (a b : ℕ) (p q : Image) : Type 0 where
  pub luma : IsSameAbove a p.luma q.luma
  pub u : IsSameAbove b p.u q.u
  pub v : IsSameAbove b p.v q.v

-- p and q have the same pixels from luma row a and chroma row b on
pub record AreSameFrom (a b : ℕ) (p q : Image) : Type 0 where
  pub luma : IsSameFrom a p.luma q.luma
  pub u : IsSameFrom b p.u q.u
  pub v : IsSameFrom b p.v q.v

-- p and q have the same shown size
pub record AreOneSize (p q : Image) : Type 0 where
  pub width : p.width ≡ q.width
  pub height : p.height ≡ q.height
