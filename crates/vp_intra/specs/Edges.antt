-- The pixels around a block for intra prediction, and the values 127, 129 and 128 outside the frame (RFC 6386, chapters
-- 12.2 and 12.3). Pinned by the tests `whole_modes` and `two_macroblock_rows`.
use Rattle.std.specs.Prelude.{ℕ, ◌+◌, ◌-◌, ◌/◌, ◌==◌, min, List, [], ◌∷◌, ◌++◌, length, sum, map, if◌then◌else◌}
use Rattle.std.specs.List.{range_with_len}
use Rattle.vp_base.specs.Raster.{Raster, pixel}
use Rattle.vp_base.specs.Block.{numbers}

-- f 0 to f (n - 1)
abbrev pub first : ℕ → (ℕ → ℕ) → List ℕ
first n f = map f (range_with_len 0 n)

-- the pixels of an n by n block in raster order; f r c is the pixel at row r and column c
unfoldable pub block : ℕ → (ℕ → ℕ → ℕ) → List ℕ
block n f = numbers n n (λ c r. f r c)

-- the pixel above column c of the block at column x of row y; above the frame it is 127
unfoldable pub above_pixel : Raster → ℕ → ℕ → ℕ → ℕ
above_pixel p x y c = if y == 0 then 127 else pixel p (x + c) (y - 1)

-- the pixel to the left of row r of that block; left of the frame it is 129
unfoldable pub left_pixel : Raster → ℕ → ℕ → ℕ → ℕ
left_pixel p x y r = if x == 0 then 129 else pixel p (x - 1) (y + r)

-- the pixel above and to the left of that block: 127 in the frame's top row, else 129 in its left column
unfoldable pub corner_pixel : Raster → ℕ → ℕ → ℕ
corner_pixel p x y = if y == 0 then 127 else (if x == 0 then 129 else pixel p (x - 1) (y - 1))

-- the pixels above and to the left of an n by n block that are inside the frame
unfoldable pub edge : Raster → ℕ → ℕ → ℕ → List ℕ
edge p x y n = (if y == 0 then [] else first n (above_pixel p x y))
    ++ (if x == 0 then [] else first n (left_pixel p x y))

-- their mean, halves up; 128 if there are none
abbrev pub rounded_mean : List ℕ → ℕ
rounded_mean [] = 128
rounded_mean (v ∷ vs) = (sum (v ∷ vs) + length (v ∷ vs) / 2) / length (v ∷ vs)

-- l + a - p, clamped to 0 to 255 (`-` is 0 if it would be negative)
abbrev pub clamped_pixel : ℕ → ℕ → ℕ → ℕ
clamped_pixel l a p = min ((l + a) - p) 255

-- TrueMotion: left plus above minus corner, at row r and column c
abbrev pub true_motion : Raster → ℕ → ℕ → ℕ → ℕ → ℕ
true_motion p x y r c = clamped_pixel (left_pixel p x y r) (above_pixel p x y c) (corner_pixel p x y)
