-- The refinement of a vector by half pixels, then by quarter pixels. The encoder's own choice. Pinned by tests on
-- moved blocks.
use Rattle.std.specs.Prelude.{◌≡◌, ℕ, ℤ, pos, ◌+ℤ◌, ◌-ℤ◌, List, [], ◌∷◌, slice_index_or}
use Rattle.vp_search.specs.declared.vector.WholeVector.{WholeVector}
use Rattle.vp_search.specs.declared.vector.QuarterVector.{QuarterVector}
use Rattle.vp_search.specs.Vectors.{quarters}
use Rattle.vp_search.specs.FirstLeast.{IsFirstLeast}

-- a centre, then its eight neighbours at distance d in raster order
abbrev pub candidates_around : QuarterVector → ℤ → List QuarterVector
candidates_around centre d =
    centre
    ∷ record { row = centre.row -ℤ d; column = centre.column -ℤ d }
    ∷ record { row = centre.row -ℤ d; column = centre.column }
    ∷ record { row = centre.row -ℤ d; column = centre.column +ℤ d }
    ∷ record { row = centre.row; column = centre.column -ℤ d }
    ∷ record { row = centre.row; column = centre.column +ℤ d }
    ∷ record { row = centre.row +ℤ d; column = centre.column -ℤ d }
    ∷ record { row = centre.row +ℤ d; column = centre.column }
    ∷ record { row = centre.row +ℤ d; column = centre.column +ℤ d }
    ∷ []

-- candidate k around a centre
abbrev pub neighbour : QuarterVector → ℤ → ℕ → QuarterVector
neighbour centre d k = slice_index_or (candidates_around centre d) k centre

-- best is the first of them with the least cost
pub record IsBestOf (cost : QuarterVector → ℕ) (centre : QuarterVector) (d : ℤ) (best : QuarterVector) : Type 0 where
  pub number : ℕ
  pub first : IsFirstLeast 9 (λ k. cost (neighbour centre d k)) number
  pub is : best ≡ neighbour centre d number

-- halfway is the best of the centre and its neighbours half a pixel away; best is that of halfway and its neighbours a
-- quarter pixel away
pub record IsRefined (cost : QuarterVector → ℕ) (centre : WholeVector) (best : QuarterVector) : Type 0 where
  pub halfway : QuarterVector
  pub first : IsBestOf cost (quarters centre) (pos 2) halfway
  pub second : IsBestOf cost halfway (pos 1) best

-- A refinement has only one best vector.
abbrev pub RefinedIsOne : Type 0
RefinedIsOne = (cost : QuarterVector → ℕ) (centre : WholeVector) (v w : QuarterVector) → IsRefined cost centre v
    → IsRefined cost centre w → v ≡ w
