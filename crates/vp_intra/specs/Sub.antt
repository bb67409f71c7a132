-- Intra prediction of a luma subblock by its ten modes, and the row of the pixels above and to the right (RFC 6386,
-- chapter 12.3). Pinned by the test `ten_subblock_modes`.
use Rattle.std.specs.Prelude.{ℕ, ◌+◌, ◌*◌, ◌-◌, ◌/◌, ◌%◌, ◌==◌, min, List, [], ◌∷◌, sum, take, drop, map, slice_index}
use Rattle.std.specs.Prelude.{replicate, if◌then◌else◌}
use Rattle.std.specs.List.{range_with_len}
use Rattle.vp_base.specs.Raster.{Raster, pixel}
use Rattle.vp_tables.specs.declared.modes.SubMode.{SubMode}
use Rattle.vp_tables.specs.declared.modes.SubMode.TheVariants.{Dc, Tm, Ve, He, Ld, Rd, Vr, Vl, Hd, Hu}
use Rattle.vp_intra.specs.Edges.{above_pixel, left_pixel, corner_pixel, clamped_pixel}

-- The row below the pixels above and to the right of the subblock at column x of row y. In the last column of a
-- macroblock it is the macroblock's first row, not the subblock's.
unfoldable pub above_right_row : ℕ → ℕ → ℕ
above_right_row x y = if x % 16 == 12 then y - y % 16 else y

-- pixel i of those above and to the right; above the frame it is 127; past the last column the last pixel is repeated,
-- which the standard leaves open
unfoldable pub above_right_pixel : Raster → ℕ → ℕ → ℕ → ℕ
above_right_pixel p x y i = if above_right_row x y == 0 then 127 else pixel p (min (x + 4 + i) (p.width - 1))
    (above_right_row x y - 1)

-- The thirteen pixels around a subblock: the left column from the bottom up, the corner, the row above and above
-- right. Index 3 is the top of the left column, 4 the corner, 5 the first of the row above.
abbrev pub around : Raster → ℕ → ℕ → List ℕ
around p x y =
    left_pixel p x y 3 ∷ left_pixel p x y 2 ∷ left_pixel p x y 1 ∷ left_pixel p x y 0 ∷ corner_pixel p x y ∷
    above_pixel p x y 0 ∷ above_pixel p x y 1 ∷ above_pixel p x y 2 ∷ above_pixel p x y 3 ∷
    above_right_pixel p x y 0 ∷ above_right_pixel p x y 1 ∷ above_right_pixel p x y 2 ∷ above_right_pixel p x y 3 ∷ []

-- the mean of two pixels, rounded
unfoldable pub avg2 : ℕ → ℕ → ℕ
avg2 x y = (x + y + 1) / 2

-- the mean of three pixels with weights 1, 2, 1, rounded
unfoldable pub avg3 : ℕ → ℕ → ℕ → ℕ
avg3 x y z = (x + 2 * y + z + 2) / 4

-- the mean of pixels k and k + 1
abbrev pub avg2_at : List ℕ → ℕ → ℕ
avg2_at es k = avg2 (slice_index es k) (slice_index es (k + 1))

-- the weighted mean of pixels k - 1, k and k + 1
abbrev pub avg3_at : List ℕ → ℕ → ℕ
avg3_at es k = avg3 (slice_index es (k - 1)) (slice_index es k) (slice_index es (k + 1))

-- the sixteen pixels of a subblock in raster order
abbrev pub sixteen : (ℕ → ℕ → ℕ) → List ℕ
sixteen f = map (λ i. f (i / 4) (i % 4)) (range_with_len 0 16)

-- the subblock that a mode predicts from the thirteen pixels
abbrev pub predicted : SubMode → List ℕ → List ℕ
predicted Dc es = replicate 16 ((sum (take 4 es) + sum (take 4 (drop 5 es)) + 4) / 8)
predicted Tm es = sixteen (λ r c. clamped_pixel (slice_index es (3 - r)) (slice_index es (5 + c)) (slice_index es 4))
predicted Ve es = sixteen (λ r c. avg3_at es (5 + c))
predicted He es =
    sixteen (λ r c. if r == 3 then avg3 (slice_index es 1) (slice_index es 0) (slice_index es 0) else avg3_at es (3 - r))
predicted Ld es =
    sixteen (λ r c. if r + c == 6 then avg3 (slice_index es 11) (slice_index es 12) (slice_index es 12) else avg3_at es (6
    + r + c))
predicted Rd es = sixteen (λ r c. avg3_at es ((4 - r) + c))
predicted Vr es =
    avg2_at es 4 ∷ avg2_at es 5 ∷ avg2_at es 6 ∷ avg2_at es 7 ∷
    avg3_at es 4 ∷ avg3_at es 5 ∷ avg3_at es 6 ∷ avg3_at es 7 ∷
    avg3_at es 3 ∷ avg2_at es 4 ∷ avg2_at es 5 ∷ avg2_at es 6 ∷
    avg3_at es 2 ∷ avg3_at es 4 ∷ avg3_at es 5 ∷ avg3_at es 6 ∷ []
predicted Vl es =
    avg2_at es 5 ∷ avg2_at es 6 ∷ avg2_at es 7 ∷ avg2_at es 8 ∷
    avg3_at es 6 ∷ avg3_at es 7 ∷ avg3_at es 8 ∷ avg3_at es 9 ∷
    avg2_at es 6 ∷ avg2_at es 7 ∷ avg2_at es 8 ∷ avg3_at es 10 ∷
    avg3_at es 7 ∷ avg3_at es 8 ∷ avg3_at es 9 ∷ avg3_at es 11 ∷ []
predicted Hd es =
    avg2_at es 3 ∷ avg3_at es 4 ∷ avg3_at es 5 ∷ avg3_at es 6 ∷
    avg2_at es 2 ∷ avg3_at es 3 ∷ avg2_at es 3 ∷ avg3_at es 4 ∷
    avg2_at es 1 ∷ avg3_at es 2 ∷ avg2_at es 2 ∷ avg3_at es 3 ∷
    avg2_at es 0 ∷ avg3_at es 1 ∷ avg2_at es 1 ∷ avg3_at es 2 ∷ []
predicted Hu es =
    avg2_at es 2 ∷ avg3_at es 2 ∷ avg2_at es 1 ∷ avg3_at es 1 ∷
    avg2_at es 1 ∷ avg3_at es 1 ∷ avg2_at es 0 ∷ avg3 (slice_index es 1) (slice_index es 0) (slice_index es 0) ∷
    avg2_at es 0 ∷ avg3 (slice_index es 1) (slice_index es 0) (slice_index es 0) ∷ slice_index es 0 ∷ slice_index es 0 ∷
    slice_index es 0 ∷ slice_index es 0 ∷ slice_index es 0 ∷ slice_index es 0 ∷ []

-- the ten modes in order
abbrev pub sub_modes : List SubMode
sub_modes = Dc ∷ Tm ∷ Ve ∷ He ∷ Ld ∷ Rd ∷ Vr ∷ Vl ∷ Hd ∷ Hu ∷ []

-- the predicted pixel at row r and column c of the subblock at column x of row y of p
unfoldable pub sub_pixel : SubMode → Raster → ℕ → ℕ → ℕ → ℕ → ℕ
sub_pixel mode p x y r c = slice_index (predicted mode (around p x y)) (r * 4 + c)
