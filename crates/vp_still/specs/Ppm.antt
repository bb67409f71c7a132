-- A picture as a binary PPM file: each pixel's red, green and blue. They follow from Y, U and V by ITU-R BT.601 in its
-- limited range, in whole numbers; a chroma sample counts for its two by two pixels. Pinned by the test
-- `ppm_of_a_picture`, by another decoder.
use Rattle.std.specs.Prelude.{ℕ, ◌+◌, ◌-◌, ◌*◌, ◌/◌, min, List, [], ◌∷◌, ◌++◌, length, slice_index, codes}
use Rattle.std.specs.Fmt.{decimal}
use Rattle.std.specs.List.{flat_map, range_with_len}
use Rattle.vp_base.specs.Raster.{row_of}
use Rattle.vp_scale.specs.declared.scale.Scale.{Scale}
use Rattle.vp_scale.specs.Scale.{factor_of, scaled_side}
use Rattle.vp_scale.specs.Planes.{luma_in, u_in, v_in}
use Rattle.vp_scale.specs.Means.{scaled_i420}

-- ---- the colour of a pixel

-- a sample times a factor, in 64ths; the factor is in 16384ths
abbrev pub times : ℕ → ℕ → ℕ
times factor sample = factor * sample / 256

-- 64ths as a number from 0 to 255; what would be below 0 is 0 before
abbrev pub shade : ℕ → ℕ
shade n = min 255 (n / 64)

-- red, green and blue of a pixel
abbrev pub rgb : ℕ → ℕ → ℕ → List ℕ
rgb y u v =
    shade (times 19077 y + times 26149 v - 14234)
    ∷ shade (times 19077 y + 8708 - (times 6419 u + times 13320 v))
    ∷ shade (times 19077 y + times 33050 u - 17685) ∷ []

-- ---- the file

-- the pixel at column x of a row, from a row of luma and those of chroma: two pixels share a sample
abbrev pub rgb_in : List ℕ → List ℕ → List ℕ → ℕ → List ℕ
rgb_in y u v x = rgb (slice_index y x) (slice_index u (x / 2)) (slice_index v (x / 2))

-- the row
unfoldable pub rgb_row : List ℕ → List ℕ → List ℕ → List ℕ
rgb_row y u v = flat_map (rgb_in y u v) (range_with_len 0 (length y))

-- row r of a picture that is given as I420: two rows share a row of chroma
abbrev pub row_in : ℕ → ℕ → List ℕ → ℕ → List ℕ
row_in w h bytes r =
    rgb_row (row_of (luma_in w h bytes) r) (row_of (u_in w h bytes) (r / 2)) (row_of (v_in w h bytes) (r / 2))

-- the lines before the pixels: the width, the height and the greatest number
unfoldable pub ppm_head : ℕ → ℕ → List ℕ
ppm_head w h = codes "P6\n" ++ (decimal w ++ (codes " " ++ (decimal h ++ codes "\n255\n")))

-- the file of a picture of w by h pixels, which is given as I420
unfoldable pub ppm_text : ℕ → ℕ → List ℕ → List ℕ
ppm_text w h bytes = ppm_head w h ++ flat_map (row_in w h bytes) (range_with_len 0 h)

-- the file of the smaller picture
abbrev pub ppm_still : Scale → ℕ → ℕ → List ℕ → List ℕ
ppm_still scale w h pixels =
    let k : ℕ = factor_of scale in
    ppm_text (scaled_side k w) (scaled_side k h) (scaled_i420 k w h pixels)
