-- The costs of intra predictions: sums of absolute differences between source and prediction. RFC 6386 leaves them
-- open.
use Rattle.std.specs.Prelude.{ℕ, ◌+◌, ◌*◌, ◌<◌}
use Rattle.vp_base.specs.declared.place.Place.{Place}
use Rattle.vp_base.specs.Raster.{Raster, pixel}
use Rattle.vp_base.specs.Image.{Image, macroblocks}
use Rattle.vp_tables.specs.declared.modes.LumaMode.{LumaMode}
use Rattle.vp_tables.specs.declared.modes.ChromaMode.{ChromaMode}
use Rattle.vp_tables.specs.declared.modes.SubMode.{SubMode}
use Rattle.vp_intra.specs.Whole.{luma_pixel, chroma_pixel}
use Rattle.vp_intra.specs.Sub.{sub_pixel}
use Rattle.vp_search.specs.Differences.{sum_of_differences}

-- the pixels of a block of n by n pixels; its place is among all such blocks of the plane
abbrev pub block_pixels : ℕ → Raster → Place → ℕ → ℕ → ℕ
block_pixels n p place r c = pixel p (n * place.column + c) (n * place.row + r)

-- a place within the picture's macroblocks
pub record HasMacroblock (p : Image) (place : Place) : Type 0 where
  pub column : place.column < macroblocks p.width
  pub row : place.row < macroblocks p.height

-- the cost of a mode for the luma subblock f; its place is among all subblocks of p
unfoldable pub sub_cost : (ℕ → ℕ → ℕ) → Raster → Place → SubMode → ℕ
sub_cost f p place mode = sum_of_differences 4 4 f (sub_pixel mode p (4 * place.column) (4 * place.row))

-- the cost of a luma mode other than B_PRED for the luma f of the macroblock at a place of p
unfoldable pub luma_mode_cost : (ℕ → ℕ → ℕ) → Raster → Place → LumaMode → ℕ
luma_mode_cost f p place mode = sum_of_differences 16 16 f (luma_pixel mode p (16 * place.column) (16 * place.row))

-- the cost of a chroma mode in one plane
unfoldable pub plane_cost : (ℕ → ℕ → ℕ) → Raster → Place → ChromaMode → ℕ
plane_cost f p place mode = sum_of_differences 8 8 f (chroma_pixel mode p (8 * place.column) (8 * place.row))

-- the cost of a chroma mode over U and V
abbrev pub chroma_cost : Image → Image → Place → ChromaMode → ℕ
chroma_cost source p place mode = plane_cost (block_pixels 8 source.u place) p.u place mode
    + plane_cost (block_pixels 8 source.v place) p.v place mode
