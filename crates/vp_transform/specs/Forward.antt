-- The encoder's forward DCT and WHT of sixteen numbers, over unbounded integers. RFC 6386 does not define them. Pinned
-- by the test `forward_examples`.
use Rattle.std.specs.Prelude.{ℤ, pos, ◌+ℤ◌, ◌-ℤ◌, ◌*ℤ◌, List, [], ◌∷◌, slice_index_or}
use Rattle.vp_transform.specs.Transform.{element_at, block_from, product, hadamard, hadamard_times}
use lib.Signed.{shr_z as floor_div}

-- ---- The Walsh-Hadamard transform

-- (X H + 1) / 2, rounded down; H is `hadamard`, X the block
unfoldable pub times_hadamard_halved : List ℤ → List ℤ
times_hadamard_halved block = block_from (λ r c. floor_div (product (element_at block)
    (element_at hadamard) r c +ℤ pos 1) 2)

-- (H X H + 1) / 2, rounded down
unfoldable pub fwht : List ℤ → List ℤ
fwht block = times_hadamard_halved (hadamard_times block)

-- ---- The DCT; 2217 and 5352 are sqrt 2 times the sine and the cosine of pi / 8, times 2^12

-- the one-dimensional transform of a row, times 8
abbrev pub row_waves : ℤ → ℤ → ℤ → ℤ → List ℤ
row_waves i0 i1 i2 i3 =
    let a = pos 8 *ℤ (i0 +ℤ i3) in
    let b = pos 8 *ℤ (i1 +ℤ i2) in
    let c = pos 8 *ℤ (i1 -ℤ i2) in
    let d = pos 8 *ℤ (i0 -ℤ i3) in
    (a +ℤ b) ∷ floor_div (pos 2217 *ℤ c +ℤ pos 5352 *ℤ d +ℤ pos 2048) 4096 ∷ (a -ℤ b)
    ∷ floor_div (pos 2217 *ℤ d -ℤ pos 5352 *ℤ c +ℤ pos 2048) 4096 ∷ []

-- the one-dimensional transform of a column, divided by 16
abbrev pub column_waves : ℤ → ℤ → ℤ → ℤ → List ℤ
column_waves i0 i1 i2 i3 =
    let a = i0 +ℤ i3 in
    let b = i1 +ℤ i2 in
    let c = i1 -ℤ i2 in
    let d = i0 -ℤ i3 in
    floor_div (a +ℤ b +ℤ pos 7) 16 ∷ floor_div (pos 2217 *ℤ c +ℤ pos 5352 *ℤ d +ℤ pos 32768) 65536 ∷ floor_div (a -ℤ b +ℤ pos 7) 16
    ∷ floor_div (pos 2217 *ℤ d -ℤ pos 5352 *ℤ c +ℤ pos 32768) 65536 ∷ []

-- transforms each row
unfoldable pub row_pass : List ℤ → List ℤ
row_pass block = block_from (λ r c. slice_index_or (row_waves (element_at block r 0) (element_at block r 1)
    (element_at block r 2) (element_at block r 3)) c (pos 0))

-- transforms each column
unfoldable pub column_pass : List ℤ → List ℤ
column_pass block = block_from (λ r c. slice_index_or (column_waves (element_at block 0 c) (element_at block 1 c)
    (element_at block 2 c) (element_at block 3 c)) r (pos 0))

-- the forward DCT: rows, then columns
unfoldable pub fdct : List ℤ → List ℤ
fdct block = column_pass (row_pass block)
