-- Private to the crate: coarse sums, which are 64ths of the sums of 8x8 squares, and the bounds that they give.
use Rattle.std.specs.Prelude.{◌≡◌, ℕ, ◌+◌, ◌*◌, ◌/◌, ◌<◌, min, List, slice_index}
use Rattle.vp_search.specs.declared.window.TheConstants.{WINDOW_WIDTH}
use Rattle.vp_search.specs.Bounds.{distance_of}

-- a 64th of a sum, rounded down, in a byte
abbrev pub coarse_of : ℕ → ℕ
coarse_of n = min (n / 64) 255

-- the first n numbers are coarse sums
abbrev pub AreCoarse : ℕ → List ℕ → List ℕ → Type 0
AreCoarse n sums coarse = (k : ℕ) → k < n → slice_index coarse k ≡ coarse_of (slice_index sums k)

-- the greatest number in a byte, where a sum is larger
abbrev pub within_byte : ℕ → ℕ
within_byte n = min n 255

-- the coarse bound of the vector whose block begins at an index: the distances of the four squares
unfoldable pub coarse_bound_of : List ℕ → List ℕ → ℕ → ℕ
coarse_bound_of block coarse at = within_byte
    (within_byte (distance_of block coarse 0 at + distance_of block coarse 1 (at + 8))
    + within_byte (distance_of block coarse 2 (at + 8 * WINDOW_WIDTH)
    + distance_of block coarse 3 (at + 8 * WINDOW_WIDTH + 8)))
