-- The six-tap and bilinear interpolation filters, by version and eighths of a pixel (subpixel, subpel; RFC 6386,
-- chapter 18.3). Pinned by the test `kernel_examples`, and the table of vp_tables.
use Rattle.std.specs.Prelude.{ℕ, ℤ, pos, ◌-◌, ◌*◌, ◌+ℤ◌, ◌*ℤ◌, ◌==◌, List, [], ◌∷◌, slice_index_or, unsigned_abs}
use Rattle.std.specs.Prelude.{if◌then◌else◌}
use Rattle.std.specs.Int.{int_min, int_max}
use lib.Signed.{shr_z as floor_div}
use Rattle.vp_tables.specs.Tables.{six_taps}

-- filter weights of the pixels at offsets -2 to 3, by version and eighths of a pixel: version 0 has six taps, the
-- others two
unfoldable pub taps : ℕ → ℕ → List ℤ
taps version eighths =
    if version == 0 then six_taps eighths
    else (pos 0 ∷ pos 0 ∷ pos (128 - 16 * eighths) ∷ pos (16 * eighths) ∷ pos 0 ∷ pos 0 ∷ [])

-- z clamped to 0 to 255
abbrev pub clamp_to_pixel : ℤ → ℕ
clamp_to_pixel z = unsigned_abs (int_max (pos 0) (int_min z (pos 255)))

-- the weighted sum of six pixels
abbrev pub weighed : List ℤ → ℕ → ℕ → ℕ → ℕ → ℕ → ℕ → ℤ
weighed weights a b c d e f =
    (pos a *ℤ slice_index_or weights 0 (pos 0) +ℤ pos b *ℤ slice_index_or weights 1 (pos 0))
    +ℤ (pos c *ℤ slice_index_or weights 2 (pos 0) +ℤ pos d *ℤ slice_index_or weights 3 (pos 0))
    +ℤ (pos e *ℤ slice_index_or weights 4 (pos 0) +ℤ pos f *ℤ slice_index_or weights 5 (pos 0))

-- the filtered pixel: 128ths of the weighted sum, rounded to the nearest, halves up, and clamped
unfoldable pub filtered_pixel : List ℤ → ℕ → ℕ → ℕ → ℕ → ℕ → ℕ → ℕ
filtered_pixel weights a b c d e f = clamp_to_pixel (floor_div (weighed weights a b c d e f +ℤ pos 64) 128)

-- the filtered pixel of pixel 0 to pixel 5
abbrev pub filter_six : List ℤ → (ℕ → ℕ) → ℕ
filter_six weights pixel = filtered_pixel weights (pixel 0) (pixel 1) (pixel 2) (pixel 3) (pixel 4) (pixel 5)
