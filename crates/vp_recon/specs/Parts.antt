-- Private to the crate: the DC coefficients of a plane's subblocks, and the residues that they are computed for.
use Rattle.std.specs.Prelude.{◌≡◌, ℕ, ◌+◌, ◌<◌, ◌≤◌, ◌*ℤ◌, ℤ, pos, unsigned_abs, Bool, List, length}
use Rattle.std.specs.Prelude.{slice_index_or, if◌then◌else◌}
use Rattle.vp_tokens.specs.declared.contexts.Tokens.{Tokens}
use Rattle.vp_tokens.specs.Block.{Block, IsBlock}
use Rattle.vp_tokens.specs.Blocks.{block_of}
use Rattle.vp_quant.specs.declared.factors.Factors.{Factors}
use Rattle.vp_quant.specs.Short.{coefficients_after}
use Rattle.vp_transform.specs.Transform.{idct}
use Rattle.vp_recon.specs.Residue.{luma_dcs}
use Rattle.vp_recon.specs.declared.residue_inputs.SmallInputs.{SmallInputs}
use Rattle.vp_recon.specs.declared.residue_inputs.LargeInputs.{LargeInputs}

-- a block with at most n tokens
abbrev pub HasUpTo : ℕ → Block → Type 0
HasUpTo n b = IsBlock b × (b.end ≤ n)

-- ---- DC coefficients

-- that of subblock k, from its own level; block `first` is that of the first subblock
abbrev pub own_dc : Tokens → ℕ → ℕ → ℕ → ℤ
own_dc t first dc k = slice_index_or (block_of t (first + k)).levels 0 (pos 0) *ℤ pos dc

-- that of luma subblock k, with a Y2 block or without
abbrev pub luma_dc : Bool → Tokens → Factors → ℕ → ℤ
luma_dc y2 t f k = if y2 then slice_index_or (luma_dcs t f) k (pos 0) else own_dc t 1 f.y_dc k

-- those of n subblocks
abbrev pub AreDcs : ℕ → List ℤ → (ℕ → ℤ) → Type 0
AreDcs n dcs dc = (k : ℕ) → k < n → slice_index_or dcs k (pos 0) ≡ dc k

-- those of n subblocks are from -2200 to 2200
abbrev pub AreSmall : ℕ → List ℤ → Type 0
AreSmall n dcs = (k : ℕ) → k < n → unsigned_abs (slice_index_or dcs k (pos 0)) ≤ 2200

-- ---- residues

-- the coefficients of subblock k, with these DC coefficients
abbrev pub coefficients_by : Tokens → ℕ → List ℤ → ℕ → ℕ → List ℤ
coefficients_by t first dcs ac k =
    coefficients_after (slice_index_or dcs k (pos 0)) (block_of t (first + k)).levels ac

-- its residue
abbrev pub residue_by : Tokens → ℕ → List ℤ → ℕ → ℕ → List ℤ
residue_by t first dcs ac k = idct (coefficients_by t first dcs ac k)

abbrev pub coefficients_in : SmallInputs → ℕ → List ℤ
coefficients_in r = coefficients_by r.tokens.now r.first r.dcs.now r.ac

abbrev pub residue_in : SmallInputs → ℕ → List ℤ
residue_in r = residue_by r.tokens.now r.first r.dcs.now r.ac

abbrev pub large_residue_in : LargeInputs → ℕ → List ℤ
large_residue_in r = residue_by r.tokens.now r.first r.dcs r.ac

-- there are n subblocks
abbrev pub HasBlocks : SmallInputs → ℕ → Type 0
HasBlocks r n = (n ≤ length r.dcs.now) × (r.first + n ≤ 25)

-- subblock k has at most n tokens
abbrev pub HasTokens : ℕ → SmallInputs → ℕ → Type 0
HasTokens n r k = HasUpTo n (block_of r.tokens.now (r.first + k))

-- the residues of n subblocks
abbrev pub HasResidues : ℕ → (ℕ → List ℤ) → (ℕ → List ℤ) → Type 0
HasResidues n own residue = (k : ℕ) → k < n → own k ≡ residue k
