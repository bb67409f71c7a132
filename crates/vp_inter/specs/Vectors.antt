-- Motion vectors in eighths of a plane's pixels: luma vectors, and chroma vectors as means of four (RFC 6386, chapters
-- 5, 18.1 and 18.2). Pinned by the test `kernel_examples`, and streams of other encoders in the gate.
use Rattle.std.specs.Prelude.{ℕ, ◌==◌, ℤ, pos, negsuc, ◌+ℤ◌, ◌-ℤ◌, ◌*ℤ◌, ◌≤ℤ◌, unsigned_abs, List, slice_index_or}
use Rattle.std.specs.Prelude.{if◌then◌else◌}
use Rattle.std.specs.Int.{int_rem_euclid}
use Rattle.std.specs.Int.RustNames.{int_div}
use lib.Signed.{shr_z as floor_div, lt_z}
use Rattle.vp_inter.specs.declared.vector.PlaneVector.{PlaneVector}

-- the whole pixels of a number of eighths, rounded down, and the remaining eighths, 0 to 7
unfoldable pub whole_pixels : ℤ → ℤ
whole_pixels eighths = floor_div eighths 8

unfoldable pub fraction : ℤ → ℕ
fraction eighths = unsigned_abs (int_rem_euclid eighths (pos 8))

-- the position of the first of the six pixels that the pixel at `at` is computed from: two before it, displaced by the
-- whole pixels
unfoldable pub first_tap : ℕ → ℤ → ℤ
first_tap at eighths = pos at +ℤ whole_pixels eighths -ℤ pos 2

-- z is from -2^24 to 2^24, far from overflow in i32
abbrev pub IsFarBelowI32 : ℤ → Type 0
IsFarBelowI32 z = (negsuc 16777215 ≤ℤ z) × (z ≤ℤ pos 16777216)

-- four such numbers
abbrev pub AreFarBelowI32 : List ℤ → Type 0
AreFarBelowI32 zs =
    IsFarBelowI32 (slice_index_or zs 0 (pos 0)) × IsFarBelowI32 (slice_index_or zs 1 (pos 0))
    × IsFarBelowI32 (slice_index_or zs 2 (pos 0)) × IsFarBelowI32 (slice_index_or zs 3 (pos 0))

-- the vector of a luma block, from quarter pixels
unfoldable pub luma_vector : ℤ → ℤ → PlaneVector
luma_vector row column = record { row = pos 2 *ℤ row; column = pos 2 *ℤ column }

-- a quarter of the sum of four numbers, rounded to the nearest, halves away from zero
unfoldable pub mean_of_four : ℤ → ℤ
mean_of_four sum = if lt_z sum (pos 0) then int_div (sum -ℤ pos 2) (pos 4) else int_div (sum +ℤ pos 2) (pos 4)

-- the mean of four rows or columns; a quarter of a luma pixel is an eighth of a chroma pixel; version 3 uses whole
-- chroma pixels
unfoldable pub chroma_eighths : ℕ → List ℤ → ℤ
chroma_eighths version quarters =
    let mean = mean_of_four ((slice_index_or quarters 0 (pos 0) +ℤ slice_index_or quarters 1 (pos 0))
    +ℤ (slice_index_or quarters 2 (pos 0) +ℤ slice_index_or quarters 3 (pos 0))) in
    if version == 3 then whole_pixels mean *ℤ pos 8 else mean

-- the vector of a 4x4 chroma block, from the rows and columns of the vectors of the four luma blocks that it covers
unfoldable pub chroma_vector : ℕ → List ℤ → List ℤ → PlaneVector
chroma_vector version rows columns = record {
  row = chroma_eighths version rows;
  column = chroma_eighths version columns;
}
