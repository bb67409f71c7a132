-- Intra prediction of a macroblock's whole luma and chroma: DC, V, H and TM (RFC 6386, chapters 12.2 and 12.3). Pinned
-- by the test `whole_modes`.
use Rattle.std.specs.Prelude.{ℕ}
use Rattle.vp_base.specs.Raster.{Raster}
use Rattle.vp_tables.specs.declared.modes.LumaMode.{LumaMode}
use Rattle.vp_tables.specs.declared.modes.LumaMode.TheVariants.{Dc, V, H, Tm, B}
use Rattle.vp_tables.specs.declared.modes.ChromaMode.{ChromaMode}
use Rattle.vp_tables.specs.declared.modes.ChromaMode.TheVariants.{Dc as ChromaDc, V as ChromaV, H as ChromaH}
use Rattle.vp_tables.specs.declared.modes.ChromaMode.TheVariants.{Tm as ChromaTm}
use Rattle.vp_intra.specs.Edges.{above_pixel, left_pixel, true_motion, edge, rounded_mean}

-- the pixel at row r and column c of the 16x16 block at column x of row y of p; B has no whole-block prediction, so 0
unfoldable pub luma_pixel : LumaMode → Raster → ℕ → ℕ → ℕ → ℕ → ℕ
luma_pixel Dc p x y r c = rounded_mean (edge p x y 16)
luma_pixel V p x y r c = above_pixel p x y c
luma_pixel H p x y r c = left_pixel p x y r
luma_pixel Tm p x y r c = true_motion p x y r c
luma_pixel B p x y r c = 0

-- the pixel at row r and column c of the 8x8 block at column x of row y of p
unfoldable pub chroma_pixel : ChromaMode → Raster → ℕ → ℕ → ℕ → ℕ → ℕ
chroma_pixel ChromaDc p x y r c = rounded_mean (edge p x y 8)
chroma_pixel ChromaV p x y r c = above_pixel p x y c
chroma_pixel ChromaH p x y r c = left_pixel p x y r
chroma_pixel ChromaTm p x y r c = true_motion p x y r c
