-- Private to the crate: costs by the vertical pass over rows that the vectors of a column share (RFC 6386, chapter
-- 18.3), as far as a limit.
use Rattle.std.specs.Prelude.{◌≡◌, ℕ, ℤ, pos, ◌+◌, ◌*◌, ◌<◌, ◌≤◌, ◌*ℤ◌, List, slice_index}
use Rattle.vp_base.specs.declared.place.Place.{Place}
use Rattle.vp_base.specs.Raster.{Raster}
use Rattle.vp_inter.specs.Filter.{filter_six}
use Rattle.vp_inter.specs.Filtered.{AreFiltered}
use Rattle.vp_inter.specs.Vectors.{luma_vector}
use Rattle.vp_search.specs.declared.vector.QuarterVector.{QuarterVector}
use Rattle.vp_search.specs.declared.vector.Refined.{Refined}
use Rattle.vp_search.specs.Refined.{neighbour, IsBestOf}

-- a number is the cost if either is at most a limit
abbrev pub IsWithin : ℕ → ℕ → ℕ → Type 0
IsWithin limit number cost = (number ≤ limit → number ≡ cost) × (limit < number → limit < cost)

-- the vertical pass to column c from row r and the five below it
abbrev pub filtered : List ℤ → List ℕ → ℕ → ℕ → ℕ
filtered weights rows r c = filter_six weights (λ k. slice_index rows ((r + k) * 16 + c))

-- rows for the vectors with a column, from a row of whole pixels on
abbrev pub IsColumn : Raster → Place → ℤ → ℤ → List ℕ → Type 0
IsColumn p place whole column rows =
    AreFiltered p (16 * place.column) (16 * place.row) (luma_vector (pos 4 *ℤ whole) column) rows

-- the costs of a centre and its neighbours at distance d, as far as the cost of the centre
abbrev pub AreWithin : List ℕ → (QuarterVector → ℕ) → Refined → ℤ → Type 0
AreWithin costs cost centre d =
    (k : ℕ) → k < 9 → IsWithin centre.cost (slice_index costs k) (cost (neighbour centre.vector d k))

-- best is a quarter pixel at most from the best of those half a pixel at most from a centre, by IsBestOf
pub record AreBestOf (cost : QuarterVector → ℕ) (centre best : QuarterVector) : Type 0 where
  pub halfway : QuarterVector
  pub first : IsBestOf cost centre (pos 2) halfway
  pub second : IsBestOf cost halfway (pos 1) best
