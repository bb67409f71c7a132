-- Inter prediction of a pixel: horizontal pass, vertical pass, and the reference extended by its border pixels (RFC
-- 6386, chapters 5, 18.1 and 18.3). Pinned by streams of other encoders in the gate, of versions 0 to 3.
use Rattle.std.specs.Prelude.{ℕ, ℤ, pos, negsuc, ◌+◌, ◌-◌, ◌+ℤ◌, min, List}
use Rattle.vp_base.specs.Raster.{Raster, pixel}
use Rattle.vp_inter.specs.declared.vector.PlaneVector.{PlaneVector}
use Rattle.vp_inter.specs.Vectors.{fraction, first_tap}
use Rattle.vp_inter.specs.Filter.{taps, filter_six}

-- a coordinate clamped to 0 to size - 1
abbrev pub nearest : ℕ → ℤ → ℕ
nearest size (pos at) = min at (size - 1)
nearest size (negsuc _) = 0

-- the pixel of a reference at any column and row: outside the plane it is the nearest pixel of the plane
unfoldable pub reference_pixel : Raster → ℤ → ℤ → ℕ
reference_pixel p column row = pixel p (nearest p.width column) (nearest p.height row)

-- the horizontal pass: the pixel filtered from the six that begin at column left + c, in row top + i
unfoldable pub horizontal_pass : List ℤ → Raster → ℤ → ℤ → ℕ → ℕ → ℕ
horizontal_pass weights p left top i c = filter_six weights (λ k. reference_pixel p (left +ℤ pos (c + k))
    (top +ℤ pos i))

-- The predicted pixel at row r and column c of the block at column x of row y, displaced by vector v. It is the
-- vertical pass over six rows of the horizontal pass. At a fraction of 0 the weights are 0 0 128 0 0 0, and a pass
-- changes nothing.
unfoldable pub inter_pixel : ℕ → Raster → ℕ → ℕ → PlaneVector → ℕ → ℕ → ℕ
inter_pixel version p x y v r c =
    filter_six (taps version (fraction v.row))
    (λ k. horizontal_pass (taps version (fraction v.column)) p (first_tap x v.column) (first_tap y v.row) (r + k) c)
