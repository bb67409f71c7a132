-- The sum of absolute differences and the sum of squared differences of two blocks of pixels. Pinned by tests that
-- compare them with plain loops.
use Rattle.std.specs.Prelude.{ℕ, ◌+◌, ◌*◌, List, length, slice_index}
use Rattle.std.specs.Int.{abs_diff}
use Rattle.vp_search.specs.Sums.{sum_below}

-- the sum of absolute differences of two blocks; f r c is the pixel at row r and column c
abbrev pub sum_of_differences : ℕ → ℕ → (ℕ → ℕ → ℕ) → (ℕ → ℕ → ℕ) → ℕ
sum_of_differences rows columns f g = sum_below rows (λ r. sum_below columns (λ c. abs_diff (f r c) (g r c)))

-- a block in a list: its first row begins at index at, and each later row stride further
abbrev pub strided_block : List ℕ → ℕ → ℕ → ℕ → ℕ → ℕ
strided_block xs at stride r c = slice_index xs (at + r * stride + c)

-- a block of 16 columns, in raster order
abbrev pub block16 : List ℕ → ℕ → ℕ → ℕ
block16 xs r c = slice_index xs (r * 16 + c)

-- a block of n columns, in raster order
abbrev pub block_from_rows : ℕ → List ℕ → ℕ → ℕ → ℕ
block_from_rows n xs r c = slice_index xs (r * n + c)

-- the squared difference of the numbers at index i of two lists
abbrev pub squared_difference : List ℕ → List ℕ → ℕ → ℕ
squared_difference xs ys i = abs_diff (slice_index xs i) (slice_index ys i) * abs_diff (slice_index xs i)
    (slice_index ys i)

-- the sum of squared differences of two lists of equal length
abbrev pub sum_of_squares : List ℕ → List ℕ → ℕ
sum_of_squares xs ys = sum_below (length xs) (squared_difference xs ys)
