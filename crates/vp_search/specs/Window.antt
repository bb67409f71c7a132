-- Private to the crate: the window of a reference that is searched. All rows have one width, of which a square is
-- used.
use Rattle.std.specs.Prelude.{ℕ, pos, ◌+◌, ◌*◌, ◌+ℤ◌, ◌-ℤ◌, List, unsigned_abs}
use Rattle.vp_base.specs.declared.place.Place.{Place}
use Rattle.vp_base.specs.Raster.{Raster}
use Rattle.vp_inter.specs.Inter.{reference_pixel}
use Rattle.vp_search.specs.declared.vector.WholeVector.{WholeVector}
use Rattle.vp_search.specs.declared.window.TheConstants.{WINDOW_WIDTH}
use Rattle.vp_search.specs.Differences.{sum_of_differences, strided_block}

-- the pixel at row i and column j of the window around the macroblock at a place, with range pixels on each side
abbrev pub searched_pixel : Raster → Place → ℕ → ℕ → ℕ → ℕ
searched_pixel p place range i j =
    reference_pixel p (pos (16 * place.column + j) -ℤ pos range) (pos (16 * place.row + i) -ℤ pos range)

-- the vector whose block begins at row i and column j of the window
abbrev pub vector_at : ℕ → ℕ → ℕ → WholeVector
vector_at range i j = record { row = pos i -ℤ pos range; column = pos j -ℤ pos range }

-- the index in the window at which a vector's block begins
abbrev pub window_place : ℕ → WholeVector → ℕ
window_place range v = unsigned_abs (v.row +ℤ pos range) * WINDOW_WIDTH + unsigned_abs (v.column +ℤ pos range)

-- the cost of a vector, with its block read from the window
unfoldable pub window_cost : List ℕ → List ℕ → ℕ → WholeVector → ℕ
window_cost block window range v = sum_of_differences 16 16 (strided_block block 0 16)
    (strided_block window (window_place range v) WINDOW_WIDTH)
