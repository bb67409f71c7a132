-- The inverse WHT and the inverse DCT of sixteen numbers, over unbounded integers (RFC 6386, chapters 14.2 to 14.4).
-- Pinned by the test `kernel_examples` (a block computed with the standard's own program).
use Rattle.std.specs.Prelude.{ℕ, ◌+◌, ◌*◌, ◌/◌, ◌%◌, ℤ, pos, negsuc, ◌+ℤ◌, ◌-ℤ◌, ◌*ℤ◌, List, [], ◌∷◌, map}
use Rattle.std.specs.Prelude.{slice_index_or}
use Rattle.std.specs.List.{range_with_len}
use lib.Signed.{shr_z as floor_div}

-- A block is sixteen numbers in raster order. This is the number at row r, column c.
abbrev pub element_at : List ℤ → ℕ → ℕ → ℤ
element_at block r c = slice_index_or block (4 * r + c) (pos 0)

-- the block that has f r c at row r, column c
abbrev pub block_from : (ℕ → ℕ → ℤ) → List ℤ
block_from f = map (λ place. f (place / 4) (place % 4)) (range_with_len 0 16)

-- ---- The inverse Walsh-Hadamard transform (chapter 14.3)

abbrev pub one : ℤ
one = pos 1

-- -1
abbrev pub minus : ℤ
minus = negsuc 0

-- the 4x4 matrix of the transform, in raster order
abbrev pub hadamard : List ℤ
hadamard =
    one ∷ one ∷ one ∷ one ∷
    one ∷ one ∷ minus ∷ minus ∷
    one ∷ minus ∷ minus ∷ one ∷
    one ∷ minus ∷ one ∷ minus ∷ []

-- row r, column c of the product of two matrices
abbrev pub product : (ℕ → ℕ → ℤ) → (ℕ → ℕ → ℤ) → ℕ → ℕ → ℤ
product m n r c = m r 0 *ℤ n 0 c +ℤ m r 1 *ℤ n 1 c +ℤ m r 2 *ℤ n 2 c +ℤ m r 3 *ℤ n 3 c

-- H X; H is `hadamard`, X the block
unfoldable pub hadamard_times : List ℤ → List ℤ
hadamard_times block = block_from (product (element_at hadamard) (element_at block))

-- X H
unfoldable pub times_hadamard : List ℤ → List ℤ
times_hadamard block = block_from (product (element_at block) (element_at hadamard))

-- (X H + 3) / 8, rounded down
unfoldable pub times_hadamard_rounded : List ℤ → List ℤ
times_hadamard_rounded block = block_from (λ r c. floor_div (product (element_at block)
    (element_at hadamard) r c +ℤ pos 3) 8)

-- (H X H + 3) / 8, rounded down
unfoldable pub iwht : List ℤ → List ℤ
iwht block = times_hadamard_rounded (hadamard_times block)

-- ---- The inverse DCT (chapter 14.4)

-- z * k / 2^16, rounded down. k / 2^16 is sqrt 2 * sin (pi / 8) for k = 35468. It is sqrt 2 * cos (pi / 8) - 1 for k =
-- 20091.
abbrev pub scaled : ℤ → ℕ → ℤ
scaled z k = floor_div (z *ℤ pos k) 65536

-- the one-dimensional transform of four numbers (a 1-D IDCT)
abbrev pub turned : ℤ → ℤ → ℤ → ℤ → List ℤ
turned i0 i1 i2 i3 =
    let a = i0 +ℤ i2 in
    let b = i0 -ℤ i2 in
    let c = scaled i1 35468 -ℤ (i3 +ℤ scaled i3 20091) in
    let d = (i1 +ℤ scaled i1 20091) +ℤ scaled i3 35468 in
    (a +ℤ d) ∷ (b +ℤ c) ∷ (b -ℤ c) ∷ (a -ℤ d) ∷ []

-- the one-dimensional transform of column c
abbrev pub column_turned : List ℤ → ℕ → List ℤ
column_turned block c = turned (element_at block 0 c) (element_at block 1 c) (element_at block 2 c)
    (element_at block 3 c)

-- the one-dimensional transform of row r
abbrev pub row_turned : List ℤ → ℕ → List ℤ
row_turned block r = turned (element_at block r 0) (element_at block r 1) (element_at block r 2) (element_at block r 3)

-- transforms each column
unfoldable pub vertical : List ℤ → List ℤ
vertical block = block_from (λ r c. slice_index_or (column_turned block c) r (pos 0))

-- (z + 4) / 8, rounded down
abbrev pub rounded : ℤ → ℤ
rounded z = floor_div (z +ℤ pos 4) 8

-- transforms each row, and rounds each number
unfoldable pub horizontal : List ℤ → List ℤ
horizontal block = block_from (λ r c. rounded (slice_index_or (row_turned block r) c (pos 0)))

-- the inverse DCT: columns, then rows
unfoldable pub idct : List ℤ → List ℤ
idct block = horizontal (vertical block)
