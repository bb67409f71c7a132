-- The luma block of a macroblock, the blocks that predict it, and their costs, by the inter prediction of RFC 6386,
-- chapter 18. The search itself is the encoder's choice.
use Rattle.std.specs.Prelude.{ℕ, pos, ◌+◌, ◌*◌, ◌+ℤ◌}
use Rattle.vp_base.specs.declared.place.Place.{Place}
use Rattle.vp_base.specs.Raster.{Raster, pixel}
use Rattle.vp_inter.specs.Vectors.{luma_vector}
use Rattle.vp_inter.specs.Inter.{reference_pixel, inter_pixel}
use Rattle.vp_search.specs.declared.vector.WholeVector.{WholeVector}
use Rattle.vp_search.specs.declared.vector.QuarterVector.{QuarterVector}
use Rattle.vp_search.specs.Differences.{sum_of_differences}

-- the pixel at row r and column c of the macroblock at a place
abbrev pub macroblock_pixels : Raster → Place → ℕ → ℕ → ℕ
macroblock_pixels p place r c = pixel p (16 * place.column + c) (16 * place.row + r)

-- the pixels of a reference displaced by a vector in whole pixels; a reference is extended by its border pixels
abbrev pub moved_block : Raster → Place → WholeVector → ℕ → ℕ → ℕ
moved_block p place v r c =
    reference_pixel p (pos (16 * place.column + c) +ℤ v.column) (pos (16 * place.row + r) +ℤ v.row)

-- the pixels predicted by a vector in quarter pixels, with the six-tap filter of version 0
abbrev pub predicted_block : Raster → Place → QuarterVector → ℕ → ℕ → ℕ
predicted_block p place v = inter_pixel 0 p (16 * place.column) (16 * place.row) (luma_vector v.row v.column)

-- the cost of a vector in whole pixels for block f: the sum of absolute differences
unfoldable pub whole_cost : (ℕ → ℕ → ℕ) → Raster → Place → WholeVector → ℕ
whole_cost f reference place v = sum_of_differences 16 16 f (moved_block reference place v)

-- the cost of a vector in quarter pixels for block f: the sum of absolute differences
unfoldable pub quarter_cost : (ℕ → ℕ → ℕ) → Raster → Place → QuarterVector → ℕ
quarter_cost f reference place v = sum_of_differences 16 16 f (predicted_block reference place v)
