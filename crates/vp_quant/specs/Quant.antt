-- Quantiser indices, the six factors, and dequantised blocks in raster order (RFC 6386, chapters 9.3, 9.6 and 14.1).
-- Pinned by the tests `factors_of_both_ends`, `indices_are_held` and `levels_at_their_places`.
use Rattle.std.specs.Prelude.{ℕ, ◌*◌, ◌/◌, ◌==◌, nat_lt, min, max, ℤ, pos, negsuc, ◌+ℤ◌, ◌*ℤ◌, List, map}
use Rattle.std.specs.Prelude.{slice_index_or, if◌then◌else◌}
use Rattle.std.specs.List.{position_or_len, range_with_len}
use Rattle.vp_head.specs.declared.fields.Header.{Header}
use Rattle.vp_head.specs.declared.fields.QuantiserIndices.{QuantiserIndices}
use Rattle.vp_quant.specs.declared.factors.Factors.{Factors}
use Rattle.vp_tables.specs.Tables.{ac_factor, dc_factor}
use Rattle.vp_tables.specs.declared.tokens.TheConstants.{ZIGZAG}

-- z clamped to 0 to 127
abbrev pub clamped_index : ℤ → ℕ
clamped_index (pos n) = min n 127
clamped_index (negsuc n) = 0

-- the quantiser index of the macroblocks of a segment (chapters 9.3, 9.6)
abbrev pub index_of : Header → ℕ → ℕ
index_of header segment =
    let frame : ℤ = pos header.quantiser.y_ac in
    let own : ℤ = slice_index_or header.segmentation.values.quantisers segment (pos 0) in
    clamped_index (if header.segmentation.enabled then (if header.segmentation.values.absolute then own else
    (frame +ℤ own)) else frame)

-- the six factors of a quantiser index with the frame's deltas (chapters 9.6, 14.1)
abbrev pub factors : ℕ → QuantiserIndices → Factors
factors index deltas = record {
  y_dc = dc_factor (clamped_index (pos index +ℤ deltas.y_dc));
  y_ac = ac_factor (clamped_index (pos index));
  y2_dc = 2 * dc_factor (clamped_index (pos index +ℤ deltas.y2_dc));
  y2_ac = max 8 (ac_factor (clamped_index (pos index +ℤ deltas.y2_ac)) * 155 / 100);
  uv_dc = min 132 (dc_factor (clamped_index (pos index +ℤ deltas.uv_dc)));
  uv_ac = ac_factor (clamped_index (pos index +ℤ deltas.uv_ac));
}

-- ---- Dequantisation of a block (chapters 13, 14.1)

-- the zigzag position of the level at a place in raster order
abbrev pub position_at : ℕ → ℕ
position_at place = position_or_len (λ z. z == place) ZIGZAG

-- the coefficient: the level at a position times its factor
abbrev pub coefficient : List ℤ → ℕ → ℕ → ℕ → ℤ
coefficient levels dc ac position = slice_index_or levels position (pos 0) *ℤ pos (if position == 0 then dc else ac)

-- the coefficients of the first count positions, in raster order; 0 elsewhere
unfoldable pub dequantised_prefix : List ℤ → ℕ → ℕ → ℕ → List ℤ
dequantised_prefix levels dc ac count =
    map (λ place. if nat_lt (position_at place) count then coefficient levels dc ac (position_at place) else pos 0)
    (range_with_len 0 16)

-- all sixteen coefficients, in raster order
unfoldable pub dequantised : List ℤ → ℕ → ℕ → List ℤ
dequantised levels dc ac = map (λ place. coefficient levels dc ac (position_at place)) (range_with_len 0 16)
