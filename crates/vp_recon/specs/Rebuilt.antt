-- Reconstruction of macroblocks: prediction plus residue, clamped to a byte, in raster order (RFC 6386, chapters 12 and
-- 14.5). Pinned by the tests `two_macroblock_rows` and `one_subblock`.
use Rattle.std.specs.Prelude.{ℕ, ◌+◌, ◌*◌, ◌/◌, ◌%◌, min, ℤ, pos, negsuc, ◌+ℤ◌, List, slice_index_or, if◌then◌else◌}
use Rattle.vp_base.specs.declared.place.Place.{Place}
use Rattle.vp_base.specs.Raster.{Raster}
use Rattle.vp_base.specs.Block.{with_block}
use Rattle.vp_base.specs.Image.{Image, macroblocks}
use Rattle.vp_base.specs.Over.{over}
use Rattle.vp_tables.specs.declared.modes.SubMode.{SubMode}
use Rattle.vp_intra.specs.Sub.{sub_pixel}
use Rattle.vp_recon.specs.Predictor.{Macroblock, predicts_by_subblocks, has_y2}
use Rattle.vp_recon.specs.Residue.{luma_residue, chroma_residue}
use Rattle.vp_recon.specs.Prediction.{luma_prediction, chroma_prediction}

-- ---- a pixel

-- clamps to 0..255
abbrev pub clamp_to_pixel : ℤ → ℕ
clamp_to_pixel (pos n) = min n 255
clamp_to_pixel (negsuc _) = 0

-- a pixel: its prediction plus its residue, clamped
unfoldable pub summed : ℕ → ℤ → ℕ
summed prediction residue = clamp_to_pixel (pos prediction +ℤ residue)

-- the residue at row r and column c of a block that is `across` subblocks wide; `residue k` is that of subblock k in
-- raster order
abbrev pub residue_at : ℕ → (ℕ → List ℤ) → ℕ → ℕ → ℤ
residue_at across residue r c = slice_index_or (residue (across * (r / 4) + c / 4)) (4 * (r % 4) + c % 4) (pos 0)

-- the pixel at row r and column c of a macroblock's luma in plane p
abbrev pub luma_made : Macroblock → Place → Raster → ℕ → ℕ → ℕ
luma_made m place p r c =
    summed (luma_prediction m.predictor place p r c)
    (residue_at 4 (luma_residue (has_y2 m.predictor) m.tokens m.factors) r c)

-- the pixel at row r and column c of a macroblock's chroma plane k in plane p
abbrev pub chroma_made : Macroblock → ℕ → Place → Raster → ℕ → ℕ → ℕ
chroma_made m k place p r c =
    summed (chroma_prediction m.predictor k place p r c) (residue_at 2 (chroma_residue m.tokens m.factors k) r c)

-- ---- a macroblock

-- p with luma subblock k (0 to 15, in raster order) of the macroblock at a place rebuilt
abbrev pub sub_step : Macroblock → Place → ℕ → Raster → Raster
sub_step m place k p =
    with_block p (16 * place.column + 4 * (k % 4)) (16 * place.row + 4 * (k / 4)) 4 4
    (λ r c. luma_made m place p (4 * (k / 4) + r) (4 * (k % 4) + c))

-- the pixels of a macroblock's luma: with B_PRED subblock by subblock, each predicted from those before it; else at
-- once
unfoldable pub luma_numbers : Macroblock → Place → Raster → List ℕ
luma_numbers m place p =
    (if predicts_by_subblocks m.predictor then over 16 (sub_step m place) p
    else with_block p (16 * place.column) (16 * place.row) 16 16 (luma_made m place p)).pixels

-- p with a macroblock's luma rebuilt
abbrev pub luma_rebuilt : Macroblock → Place → Raster → Raster
luma_rebuilt m place p = record p { pixels = luma_numbers m place p }

-- chroma plane k
abbrev pub chroma_rebuilt : Macroblock → ℕ → Place → Raster → Raster
chroma_rebuilt m k place p = with_block p (8 * place.column) (8 * place.row) 8 8 (chroma_made m k place p)

-- p with the macroblock at a place rebuilt
abbrev pub rebuilt : Macroblock → Place → Image → Image
rebuilt m place p = record p {
  luma = luma_rebuilt m place p.luma;
  u = chroma_rebuilt m 1 place p.u;
  v = chroma_rebuilt m 2 place p.v;
}

-- ---- a frame; f gives the macroblock at each place

-- p with the first `columns` macroblocks of a row rebuilt, from left to right
abbrev pub row_rebuilt : ℕ → (Place → Macroblock) → ℕ → Image → Image
row_rebuilt columns f row p =
    over columns (λ column. rebuilt (f (record { column = column; row = row }))
    (record { column = column; row = row })) p

-- p with all macroblocks rebuilt, row by row
abbrev pub all_rebuilt : (Place → Macroblock) → Image → Image
all_rebuilt f p = over (macroblocks p.height) (row_rebuilt (macroblocks p.width) f) p

-- ---- a single luma subblock

-- p with one luma subblock rebuilt; `block` is its place among all luma subblocks
abbrev pub with_sub : Raster → Place → SubMode → List ℤ → Raster
with_sub p block mode residue =
    with_block p (4 * block.column) (4 * block.row) 4 4
    (λ r c. summed (sub_pixel mode p (4 * block.column) (4 * block.row) r c)
    (slice_index_or residue (4 * r + c) (pos 0)))
