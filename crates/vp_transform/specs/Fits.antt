-- When the transforms of a block do not overflow i64.
use Rattle.std.specs.Prelude.{◌≤◌, ℕ, ◌<◌, ℤ, pos, ◌+ℤ◌, ◌-ℤ◌, ◌*ℤ◌, List, slice_index_or, unsigned_abs, ◌+◌, ◌^◌}
use Rattle.std.specs.Int.{w64}
use Rattle.std.specs.Int.RustNames.{FitsSigned}
use Rattle.vp_transform.specs.Transform.{element_at, scaled, turned, vertical}

-- z fits in i64
abbrev pub Fits : ℤ → Type 0
Fits z = FitsSigned w64 z

-- each intermediate result of the one-dimensional transform fits in i64
pub record TurnFits (i0 i1 i2 i3 : ℤ) : Type 0 where
  pub a : Fits (i0 +ℤ i2)
  pub b : Fits (i0 -ℤ i2)
  pub sine_1 : Fits (i1 *ℤ pos 35468)
  pub cosine_1 : Fits (i1 *ℤ pos 20091)
  pub sine_3 : Fits (i3 *ℤ pos 35468)
  pub cosine_3 : Fits (i3 *ℤ pos 20091)
  pub grown_1 : Fits (i1 +ℤ scaled i1 20091)
  pub grown_3 : Fits (i3 +ℤ scaled i3 20091)
  pub c : Fits (scaled i1 35468 -ℤ (i3 +ℤ scaled i3 20091))
  pub d : Fits ((i1 +ℤ scaled i1 20091) +ℤ scaled i3 35468)
  pub first : Fits ((i0 +ℤ i2) +ℤ ((i1 +ℤ scaled i1 20091) +ℤ scaled i3 35468))
  pub second : Fits ((i0 -ℤ i2) +ℤ (scaled i1 35468 -ℤ (i3 +ℤ scaled i3 20091)))
  pub third : Fits ((i0 -ℤ i2) -ℤ (scaled i1 35468 -ℤ (i3 +ℤ scaled i3 20091)))
  pub fourth : Fits ((i0 +ℤ i2) -ℤ ((i1 +ℤ scaled i1 20091) +ℤ scaled i3 35468))

-- so does each result with 4 added, before it is rounded
pub record TurnAndRoundFits (i0 i1 i2 i3 : ℤ) : Type 0 where
  pub idct_1d : TurnFits i0 i1 i2 i3
  pub more : (k : ℕ) → k < 4 → Fits (slice_index_or (turned i0 i1 i2 i3) k (pos 0) +ℤ pos 4)

-- each intermediate result of transforming the columns fits in i64
pub record ColumnsFit (block : List ℤ) : Type 0 where
  pub column : (c : ℕ) → c < 4 → TurnFits (element_at block 0 c) (element_at block 1 c) (element_at block 2 c)
      (element_at block 3 c)

-- each intermediate result of transforming and rounding the rows fits in i64
pub record RowsFit (block : List ℤ) : Type 0 where
  pub row : (r : ℕ) → r < 4 → TurnAndRoundFits (element_at block r 0) (element_at block r 1) (element_at block r 2)
      (element_at block r 3)

-- each intermediate result of `idct` of the block fits in i64
pub record IdctFits (block : List ℤ) : Type 0 where
  pub columns : ColumnsFit block
  pub rows : RowsFit (vertical block)

-- ---- The inverse Walsh-Hadamard transform

-- the sum of the absolute values in a column
abbrev pub column_size : List ℤ → ℕ → ℕ
column_size block c = unsigned_abs (element_at block 0 c) + unsigned_abs (element_at block 1 c)
    + unsigned_abs (element_at block 2 c) + unsigned_abs (element_at block 3 c)

-- the sum of the absolute values in a row
abbrev pub row_size : List ℤ → ℕ → ℕ
row_size block r = unsigned_abs (element_at block r 0) + unsigned_abs (element_at block r 1)
    + unsigned_abs (element_at block r 2) + unsigned_abs (element_at block r 3)

-- The sum of the sixteen absolute values, plus 3, fits in i64. So does each sum of any of the numbers, with any signs
-- and in any order.
abbrev pub IwhtFits : List ℤ → Type 0
IwhtFits block = column_size block 0 + column_size block 1 + column_size block 2 + column_size block 3 + 3 < 2 ^ 63

-- each number of the block is from -b to b
abbrev pub EachWithin : ℕ → List ℤ → Type 0
EachWithin b block = (i : ℕ) → unsigned_abs (slice_index_or block i (pos 0)) ≤ b
