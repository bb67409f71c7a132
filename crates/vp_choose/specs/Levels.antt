-- The levels of a macroblock: source minus prediction, transformed, quantised, and in zigzag order.
use Rattle.std.specs.Prelude.{◌≡◌, ℕ, ◌+◌, ◌*◌, ◌/◌, ◌%◌, ◌<◌, ◌≤◌, ◌==◌, ℤ, pos, ◌-ℤ◌, List, map, slice_index_or}
use Rattle.std.specs.Prelude.{slice_set, if◌then◌else◌}
use Rattle.std.specs.List.{range_with_len}
use Rattle.vp_tables.specs.Tables.{zigzag}
use Rattle.vp_tokens.specs.declared.contexts.Tokens.{Tokens}
use Rattle.vp_tokens.specs.Blocks.{block_of as tokens_of}
use Rattle.vp_quant.specs.declared.factors.Factors.{Factors}
use Rattle.vp_quant.specs.Level.{quantised}
use Rattle.vp_transform.specs.Transform.{block_from as listed}
use Rattle.vp_transform.specs.Forward.{fdct, fwht}

-- subblock k of a block that is `across` subblocks wide
abbrev pub part : ℕ → (ℕ → ℕ → ℕ) → ℕ → ℕ → ℕ → ℕ
part across f k r c = f (4 * (k / across) + r) (4 * (k % across) + c)

-- the coefficients of a subblock f whose prediction is g
unfoldable pub coefficients : (ℕ → ℕ → ℕ) → (ℕ → ℕ → ℕ) → List ℤ
coefficients f g = fdct (listed (λ r c. pos (f r c) -ℤ pos (g r c)))

-- the levels in zigzag order: the DC coefficient is quantised by dc, the others by ac
unfoldable pub quantised_levels : List ℤ → ℕ → ℕ → List ℤ
quantised_levels numbers dc ac =
    map (λ i. quantised (slice_index_or numbers (zigzag i) (pos 0)) (if i == 0 then dc else ac)) (range_with_len 0 16)

-- the DC coefficients of sixteen subblocks
unfoldable pub firsts : (ℕ → List ℤ) → List ℤ
firsts each = map (λ k. slice_index_or (each k) 0 (pos 0)) (range_with_len 0 16)

-- the coefficients of subblock k of a block f, which is `across` subblocks wide and whose prediction is g
abbrev pub part_coefficients : ℕ → (ℕ → ℕ → ℕ) → (ℕ → ℕ → ℕ) → ℕ → List ℤ
part_coefficients across f g k = coefficients (part across f k) (part across g k)

-- luma with a Y2 block: that has the DC coefficients, transformed again, and luma blocks have no DC level
pub record HasLumaAndY2 (f g : ℕ → ℕ → ℕ) (factors : Factors) (t : Tokens) : Type 0 where
  pub y2 : (tokens_of t 0).levels ≡ quantised_levels (fwht (firsts
      (part_coefficients 4 f g))) factors.y2_dc factors.y2_ac
  pub luma : (k : ℕ) → k < 16
      → (tokens_of t (1 + k)).levels ≡ slice_set (quantised_levels
      (part_coefficients 4 f g k) factors.y_dc factors.y_ac) 0 (pos 0)

-- chroma plane n: 1 is U, 2 is V
abbrev pub HasChroma : (ℕ → ℕ → ℕ) → (ℕ → ℕ → ℕ) → Factors → Tokens → ℕ → Type 0
HasChroma f g factors t n =
    (k : ℕ) → k < 4 → (tokens_of t (13 + 4 * n + k)).levels ≡ quantised_levels
    (part_coefficients 2 f g k) factors.uv_dc factors.uv_ac

-- each factor is at least 1
abbrev pub ArePositive : Factors → Type 0
ArePositive f = (1 ≤ f.y_dc) × (1 ≤ f.y_ac) × (1 ≤ f.y2_dc) × (1 ≤ f.y2_ac) × (1 ≤ f.uv_dc) × (1 ≤ f.uv_ac)
