-- Private to the crate: runs of pixels of a row, and sums of blocks of pixels.
use Rattle.std.specs.Prelude.{ℕ, ◌+◌, ◌-◌, min, sum, List, length, map, slice_index}
use Rattle.std.specs.List.{range_with_len}
use Rattle.vp_base.specs.Raster.{Raster}
use Rattle.vp_base.specs.Block.{numbers}
use Rattle.vp_scale.specs.Means.{nearest}

-- the k pixels from column x on; beyond the end of the row, its last one
abbrev pub run_from : ℕ → ℕ → List ℕ → List ℕ
run_from k x row = map (λ c. slice_index row (min (x + c) (length row - 1))) (range_with_len 0 k)

-- the sum of the pixels of n columns and k rows whose first one is at column x of row y
unfoldable pub block_sum : ℕ → ℕ → Raster → ℕ → ℕ → ℕ
block_sum n k p x y = sum (numbers n k (λ c r. nearest p (x + c) (y + r)))
