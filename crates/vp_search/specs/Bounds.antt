-- Private to the crate: lower bounds of the costs of a search, by sums of the pixels of 8x8 squares (successive
-- elimination, Li and Salari 1995).
use Rattle.std.specs.Prelude.{◌≡◌, ℕ, ◌+◌, ◌*◌, ◌<◌, ◌≤◌, min, List, [], ◌∷◌, slice_index}
use Rattle.std.specs.Int.{abs_diff}
use Rattle.vp_search.specs.declared.window.TheConstants.{WINDOW_WIDTH}
use Rattle.vp_search.specs.Sums.{sum_below}

-- the greatest number in a lane, where a sum is larger; no sum of bytes here is
abbrev pub capped : ℕ → ℕ
capped n = min n 65535

-- the sum of eight pixels of a column
unfoldable pub column_sum : List ℕ → ℕ → ℕ → ℕ
column_sum xs at stride = capped (sum_below 8 (λ r. slice_index xs (at + r * stride)))

-- the sum of eight neighbours
unfoldable pub row_sum : List ℕ → ℕ → ℕ
row_sum xs at = capped (sum_below 8 (λ c. slice_index xs (at + c)))

-- the sum of the pixels of the square of eight rows and columns that begins at an index
unfoldable pub square_sum : List ℕ → ℕ → ℕ → ℕ
square_sum xs at stride = capped (sum_below 8 (λ c. column_sum xs (at + c) stride))

-- the sums of the four squares of a block of sixteen rows and columns
abbrev pub block_sums : List ℕ → List ℕ
block_sums xs = square_sum xs 0 16 ∷ square_sum xs 8 16 ∷ square_sum xs 128 16 ∷ square_sum xs 136 16 ∷ []

-- the distance of square k of a block from the square at an index
abbrev pub distance_of : List ℕ → List ℕ → ℕ → ℕ → ℕ
distance_of block sums k at = abs_diff (slice_index block k) (slice_index sums at)

-- the bound of the vector whose block begins at an index: the distances of the four squares
unfoldable pub bound_of : List ℕ → List ℕ → ℕ → ℕ
bound_of block sums at = capped (capped (distance_of block sums 0 at + distance_of block sums 1 (at + 8))
    + capped (distance_of block sums 2 (at + 8 * WINDOW_WIDTH) + distance_of block sums 3 (at + 8 * WINDOW_WIDTH + 8)))

-- the list holds the sums of the squares of a window that a search compares
abbrev pub IsSummed : List ℕ → List ℕ → ℕ → Type 0
IsSummed window sums range = (y x : ℕ) → y ≤ 2 * range + 8 → x ≤ 2 * range + 8
    → slice_index sums (y * WINDOW_WIDTH + x) ≡ square_sum window (y * WINDOW_WIDTH + x) WINDOW_WIDTH

-- from an index on the list holds those of the first columns
abbrev pub AreSummed : List ℕ → List ℕ → ℕ → ℕ → ℕ → Type 0
AreSummed window sums range start columns = (y x : ℕ) → y ≤ 2 * range + 8 → x < columns
    → slice_index sums (start + (y * WINDOW_WIDTH + x)) ≡ square_sum window (y * WINDOW_WIDTH + x) WINDOW_WIDTH
