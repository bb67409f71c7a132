-- The choice of a macroblock's intra modes, and its levels; ties go to the first mode in order. RFC 6386 leaves it
-- open. Pinned by the test `encode_flat_bright`.
use Rattle.std.specs.Prelude.{◌≡◌, ℕ, ◌+◌, ◌<◌, pos, false, true, List, [], ◌∷◌, replicate, slice_index_or}
use Rattle.std.specs.Prelude.{if◌then◌else◌}
use Rattle.vp_base.specs.declared.place.Place.{Place}
use Rattle.vp_base.specs.Raster.{Raster}
use Rattle.vp_base.specs.Image.{Image}
use Rattle.vp_tables.specs.declared.modes.LumaMode.{LumaMode}
use Rattle.vp_tables.specs.declared.modes.LumaMode.TheVariants as luma_is
use Rattle.vp_tables.specs.declared.modes.ChromaMode.{ChromaMode}
use Rattle.vp_tables.specs.declared.modes.ChromaMode.TheVariants as chroma_is
use Rattle.vp_tables.specs.declared.modes.SubMode.TheVariants as sub_is
use Rattle.vp_tables.specs.Modes.{is_by_subblocks}
use Rattle.vp_head.specs.declared.fields.Reference.TheVariants as reference_is
use Rattle.vp_modes.specs.Entry.{Modes}
use Rattle.vp_tokens.specs.declared.contexts.Tokens.{Tokens}
use Rattle.vp_tokens.specs.Blocks.{block_of as tokens_of}
use Rattle.vp_quant.specs.declared.factors.Factors.{Factors}
use Rattle.vp_recon.specs.Predictor.{Intra}
use Rattle.vp_recon.specs.Prediction.{luma_prediction, chroma_prediction}
use Rattle.vp_search.specs.FirstLeast.{IsFirstLeast}
use Rattle.vp_choose.specs.declared.subblocks.Subblocks.{Subblocks}
use Rattle.vp_choose.specs.Costs.{block_pixels, luma_mode_cost, chroma_cost}
use Rattle.vp_choose.specs.Levels.{HasLumaAndY2, HasChroma}
use Rattle.vp_choose.specs.Subblocks.{AreSubblocksChosen, levels_in}

-- the luma modes in tie-breaking order
abbrev pub luma_order : List LumaMode
luma_order = luma_is.Dc ∷ luma_is.V ∷ luma_is.H ∷ luma_is.Tm ∷ luma_is.B ∷ []

-- the luma mode at a position in this order
abbrev pub luma_at : ℕ → LumaMode
luma_at i = slice_index_or luma_order i luma_is.Dc

-- the cost of a luma mode for the luma f; B_PRED costs 128 more than its subblocks
abbrev pub luma_cost : (ℕ → ℕ → ℕ) → Raster → Place → ℕ → LumaMode → ℕ
luma_cost f p place subblocks mode = if is_by_subblocks mode then subblocks + 128 else luma_mode_cost f p place mode

-- the choice of an intra macroblock's luma mode, its cost, and the subblocks of B_PRED, whichever mode is chosen
pub record LumaChoice : Type 0 where
  pub mode : LumaMode
  pub subblocks : Subblocks
  pub cost : ℕ

-- the first luma mode of the least cost
pub record IsLuma (f : ℕ → ℕ → ℕ) (factors : Factors) (place : Place) (p : Raster) (l : LumaChoice) : Type 0 where
  pub subblocks : AreSubblocksChosen f factors place p l.subblocks
  pub number : ℕ
  pub first : IsFirstLeast 5 (λ i. luma_cost f p place l.subblocks.cost (luma_at i)) number
  pub mode : l.mode ≡ luma_at number
  pub cost : l.cost ≡ luma_cost f p place l.subblocks.cost l.mode

-- the chroma modes in tie-breaking order
abbrev pub chroma_order : List ChromaMode
chroma_order = chroma_is.Dc ∷ chroma_is.V ∷ chroma_is.H ∷ chroma_is.Tm ∷ []

-- the chroma mode at a position in this order
abbrev pub chroma_at : ℕ → ChromaMode
chroma_at i = slice_index_or chroma_order i chroma_is.Dc

-- the first chroma mode of the least cost over U and V
pub record IsChroma (source : Image) (place : Place) (p : Image) (mode : ChromaMode) : Type 0 where
  pub number : ℕ
  pub first : IsFirstLeast 4 (λ i. chroma_cost source p place (chroma_at i)) number
  pub is : mode ≡ chroma_at number

-- the luma of B_PRED: the levels that were chosen with the subblock modes, and no Y2 block
pub record HasSubblocks (s : Subblocks) (t : Tokens) : Type 0 where
  pub y2 : (tokens_of t 0).levels ≡ replicate 16 (pos 0)
  pub luma : (k : ℕ) → k < 16 → (tokens_of t (1 + k)).levels ≡ levels_in s k

-- the modes and the levels of an intra macroblock with this luma
pub record IsIntra (source : Image) (factors : Factors) (place : Place) (p : Image) (l : LumaChoice) (m : Modes)
    (t : Tokens) : Type 0 where
  pub reference : m.reference ≡ reference_is.Intra
  pub luma : m.luma ≡ l.mode
  pub subs : m.subs ≡ (if is_by_subblocks l.mode then l.subblocks.modes else replicate 16 sub_is.Dc)
  pub chroma : IsChroma source place p m.chroma
  pub by_subblocks : is_by_subblocks l.mode ≡ true → HasSubblocks l.subblocks t
  pub at_once : is_by_subblocks l.mode ≡ false
      → HasLumaAndY2 (block_pixels 16 source.luma place) (luma_prediction (Intra m) place p.luma) factors t
  pub u : HasChroma (block_pixels 8 source.u place) (chroma_prediction (Intra m) 1 place p.u) factors t 1
  pub v : HasChroma (block_pixels 8 source.v place) (chroma_prediction (Intra m) 2 place p.v) factors t 2
