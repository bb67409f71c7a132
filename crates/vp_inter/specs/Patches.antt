-- Private to the crate: what is read from a place in a reference plane.
use Rattle.std.specs.Prelude.{◌≡◌, ◌+◌, ◌*◌, ◌/◌, ◌%◌, ◌<◌, ◌≤◌, ℕ, ℤ, pos, ◌+ℤ◌, ◌≤ℤ◌, ◌==◌, List, slice_index}
use Rattle.std.specs.Prelude.{if◌then◌else◌}
use Rattle.vp_base.specs.Raster.{Raster}
use Rattle.vp_inter.specs.declared.patch.Patch.{Patch}
use Rattle.vp_inter.specs.declared.vector.PlaneVector.{PlaneVector}
use Rattle.vp_inter.specs.declared.weights.PairWeights.{PairWeights}
use Rattle.vp_inter.specs.declared.weights.HorizontalFilter.{HorizontalFilter}
use Rattle.vp_inter.specs.Inter.{nearest, reference_pixel, horizontal_pass}
use Rattle.vp_inter.specs.Turns.{first_weights}
use Rattle.vp_inter.specs.Vectors.{fraction, first_tap}

-- the plane
abbrev pub raster : Patch → Raster
raster p = record { width = p.width; height = p.height; pixels = p.pixels.now }

-- a place at the first pixel that the block at column x of row y is predicted from, displaced by vector v
abbrev pub IsAt : Patch → Raster → ℕ → ℕ → PlaneVector → Type 0
IsAt p plane x y v = (raster p ≡ plane) × (p.left ≡ first_tap x v.column) × (p.top ≡ first_tap y v.row)

-- the first column or row that is read for a block at `at`: without a fraction it is the block's own, which is two
-- after the first of six
abbrev pub first_read : ℕ → ℕ → ℕ
first_read at eighths = if eighths == 0 then at + 2 else at

-- the place that rows of the block at column x of row y are predicted from, displaced by vector v, in a plane of bytes
abbrev pub IsForRows : Patch → Raster → ℕ → ℕ → PlaneVector → Type 0
IsForRows p plane x y v =
    IsAt p plane (first_read x (fraction v.column)) y v × ((column row : ℤ) → reference_pixel plane column row ≤ 255)

-- the place that the block is predicted from, in rows and columns
abbrev pub IsFor : Patch → Raster → ℕ → ℕ → PlaneVector → Type 0
IsFor p plane x y v = IsForRows p plane x (first_read y (fraction v.row)) v

-- the first n columns are inside the plane
abbrev pub HasColumns : Patch → ℕ → Type 0
HasColumns p n = (pos 0 ≤ℤ p.left) × ((p.left +ℤ pos n) ≤ℤ pos p.width)

-- the first n rows are inside the plane
abbrev pub HasRows : Patch → ℕ → Type 0
HasRows p n = (pos 0 ≤ℤ p.top) × ((p.top +ℤ pos n) ≤ℤ pos p.height)

-- the pixel at column c of row r, counted from the place on
abbrev pub patch_pixel : Patch → ℕ → ℕ → ℕ
patch_pixel p r c = reference_pixel (raster p) (p.left +ℤ pos c) (p.top +ℤ pos r)

-- the horizontal pass to the pixel at column c of row r
abbrev pub patch_pass : List ℤ → Patch → ℕ → ℕ → ℕ
patch_pass weights p r c = horizontal_pass weights (raster p) p.left p.top r c

-- the six weights in three vectors
abbrev pub weights_of : PairWeights → List ℤ
weights_of pairs = first_weights pairs.first pairs.second pairs.third

-- A row filter selects pixels beside those three to the right, from each of the first three of six on. The first of
-- them is column `from` of the place.
abbrev pub Selects : HorizontalFilter → Patch → ℕ → Type 0
Selects filter p from =
    (i : ℕ) → i < 16
    → (filter.start + slice_index filter.first i ≡ nearest p.width (p.left +ℤ pos (from + (i / 2 + 3 * (i % 2)))))
    × (filter.start + slice_index filter.second i ≡ nearest p.width (p.left +ℤ pos (from + (i / 2 + 3 * (i % 2) + 1))))
    × (filter.start + slice_index filter.third i ≡ nearest p.width (p.left +ℤ pos (from + (i / 2 + 3 * (i % 2) + 2))))
