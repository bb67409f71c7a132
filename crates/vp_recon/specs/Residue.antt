-- The residue of a macroblock's subblocks (RFC 6386, chapters 14.1 to 14.4). Blocks are numbered: 0 is Y2, 1 to 16 are
-- luma, 17 to 20 U, and 21 to 24 V. Pinned by the tests `first_coefficients_of_y2`, `all_ones_tokens` and
-- `great_products_do_not_wrap`.
use Rattle.std.specs.Prelude.{ℕ, ◌+◌, ◌*◌, ℤ, pos, Bool, List, slice_index_or, slice_set, if◌then◌else◌}
use Rattle.vp_tokens.specs.declared.contexts.Tokens.{Tokens}
use Rattle.vp_tokens.specs.Blocks.{block_of}
use Rattle.vp_quant.specs.declared.factors.Factors.{Factors}
use Rattle.vp_quant.specs.Quant.{dequantised}
use Rattle.vp_transform.specs.Transform.{idct, iwht}

-- the residue of a subblock of these levels, in raster order
abbrev pub residue : List ℤ → ℕ → ℕ → List ℤ
residue levels dc ac = idct (dequantised levels dc ac)

-- the DC coefficients of the sixteen luma subblocks, from the Y2 block (chapter 14.3)
unfoldable pub luma_dcs : Tokens → Factors → List ℤ
luma_dcs t f = iwht (dequantised (block_of t 0).levels f.y2_dc f.y2_ac)

-- the coefficients of luma subblock k, with a Y2 block or without
unfoldable pub luma_coefficients : Bool → Tokens → Factors → ℕ → List ℤ
luma_coefficients y2 t f k =
    let own = dequantised (block_of t (1 + k)).levels f.y_dc f.y_ac in
    if y2 then slice_set own 0 (slice_index_or (luma_dcs t f) k (pos 0)) else own

-- the residue of luma subblock k, in raster order
unfoldable pub luma_residue : Bool → Tokens → Factors → ℕ → List ℤ
luma_residue y2 t f k = idct (luma_coefficients y2 t f k)

-- the residue of subblock k of a chroma plane: 1 is U, 2 is V
unfoldable pub chroma_residue : Tokens → Factors → ℕ → ℕ → List ℤ
chroma_residue t f plane k = residue (block_of t (13 + 4 * plane + k)).levels f.uv_dc f.uv_ac
