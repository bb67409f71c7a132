-- Private to the crate: how a macroblock is coded and predicted, and the choice that its levels complete.
use Rattle.std.specs.Prelude.{◌≡◌, ℕ, ◌+◌, ◌*◌, ◌<◌, pos, Bool, true, false, not, List, length, replicate}
use Rattle.std.specs.Prelude.{is_some, IfSome, slice_index, slice_index_or}
use Rattle.std.specs.Bool.{then_some}
use Rattle.vp_base.specs.declared.place.Place.{Place}
use Rattle.vp_base.specs.Grid.{Grid}
use Rattle.vp_base.specs.Raster.{Raster}
use Rattle.vp_base.specs.Block.{with_block}
use Rattle.vp_base.specs.Image.{Image}
use Rattle.vp_tables.specs.declared.modes.VectorMode.TheVariants as vector_is
use Rattle.vp_tables.specs.Modes.{is_by_subblocks}
use Rattle.vp_head.specs.Reference.{is_intra}
use Rattle.vp_motion.specs.Vector.{MacroblockMotion, IsWithin, last_of, zero_vector}
use Rattle.vp_motion.specs.Near.{candidates}
use Rattle.vp_motion.specs.Spelled.{CanBeWritten}
use Rattle.vp_tokens.specs.declared.contexts.Tokens.{Tokens}
use Rattle.vp_tokens.specs.Block.{Block, IsBlock, IsTight, level_of, no_tokens}
use Rattle.vp_tokens.specs.Blocks.{block_of as tokens_of, any_token}
use Rattle.vp_quant.specs.declared.factors.Factors.{Factors}
use Rattle.vp_intra.specs.Edges.{block as listed}
use Rattle.vp_intra.specs.Whole.{luma_pixel}
use Rattle.vp_recon.specs.declared.given.MacroblockPixels.{MacroblockPixels}
use Rattle.vp_recon.specs.Predictor.{Predictor, macroblock_of, predicts_by_subblocks, has_y2}
use Rattle.vp_recon.specs.Prediction.{luma_prediction, chroma_prediction}
use Rattle.vp_recon.specs.Rebuilt.{luma_rebuilt}
use Rattle.vp_choose.specs.declared.subblocks.Subblocks.{Subblocks}
use Rattle.vp_choose.specs.declared.luma.IntraLuma.{IntraLuma}
use Rattle.vp_choose.specs.declared.coding.Coding.{Coding}
use Rattle.vp_choose.specs.declared.frame.Choice.{Choice}
use Rattle.vp_choose.specs.Costs.{block_pixels}
use Rattle.vp_choose.specs.Levels.{HasLumaAndY2, HasChroma}
use Rattle.vp_choose.specs.Subblocks.{after_subblocks}
use Rattle.vp_choose.specs.Frame.{FrameSearch, source_by, no_biases}
use Rattle.vp_choose.specs.Intra.{LumaChoice, IsLuma, HasSubblocks}
use Rattle.vp_choose.specs.Choice.{IsTaken}

-- the source pixels of the macroblock at a place
pub record AreCut (source : Image) (place : Place) (b : MacroblockPixels) : Type 0 where
  pub luma : b.luma ≡ listed 16 (block_pixels 16 source.luma place)
  pub u : b.u ≡ listed 8 (block_pixels 8 source.u place)
  pub v : b.v ≡ listed 8 (block_pixels 8 source.v place)

-- ---- blocks

-- a block that ends after its last nonzero level
pub record IsEnded (b : Block) : Type 0 where
  pub tight : IsTight b
  pub good : IsBlock b

-- each block ends so
abbrev pub AreEnded : List Block → Type 0
AreEnded blocks = (k : ℕ) → IsEnded (slice_index_or blocks k no_tokens)

-- the blocks of Y2 and luma are these
abbrev pub HaveLuma : List Block → Tokens → Type 0
HaveLuma blocks t = (k : ℕ) → k < 17 → tokens_of t k ≡ slice_index_or blocks k no_tokens

-- The blocks of a macroblock can be written as they are. Luma has no DC levels if there is a Y2 block.
pub record AreWritable (with_y2 : Bool) (blocks : List Block) : Type 0 where
  pub number : length blocks ≡ 25
  pub ended : AreEnded blocks
  pub no_dc : with_y2 ≡ true → (k : ℕ) → k < 16 → level_of (slice_index_or blocks (1 + k) no_tokens) 0 ≡ pos 0
  pub no_y2 : with_y2 ≡ false → slice_index_or blocks 0 no_tokens ≡ no_tokens

-- ---- a macroblock

-- the luma of the macroblock at a place that is rebuilt by its subblocks, and their levels
pub record IsRebuiltLuma (factors : Factors) (place : Place) (p : Raster) (s : Subblocks) (pixels : List ℕ)
    : Type 0 where
  pub is : with_block p (16 * place.column) (16 * place.row) 16 16 (λ r c. slice_index pixels (r * 16 + c))
      ≡ after_subblocks factors place p s 16
  pub writable : AreWritable false s.blocks

-- the luma's prediction by its mode
pub record IsPredictedLuma (factors : Factors) (place : Place) (p : Raster) (l : IntraLuma) : Type 0 where
  pub at_once : is_by_subblocks l.mode ≡ false
      → l.prediction ≡ listed 16 (luma_pixel l.mode p (16 * place.column) (16 * place.row))
  pub by_subblocks : IfSome l.subblocks (λ s. IsRebuiltLuma factors place p s l.prediction)

-- the luma of a choice, with the subblocks of B_PRED if that is chosen
pub record IsLumaOf (choice : LumaChoice) (l : IntraLuma) : Type 0 where
  pub mode : l.mode ≡ choice.mode
  pub subblocks : l.subblocks ≡ then_some (is_by_subblocks choice.mode) choice.subblocks
  pub cost : l.cost ≡ choice.cost

-- the luma of the choice for the luma f of the macroblock at a place of p
pub record IsIntraLuma (f : ℕ → ℕ → ℕ) (factors : Factors) (place : Place) (p : Raster) (l : IntraLuma) : Type 0 where
  pub choice : LumaChoice
  pub best : IsLuma f factors place p choice
  pub is : IsLumaOf choice l

-- The prediction of the macroblock at a place of p. With B_PRED its luma is rebuilt already, by whatever tokens have
-- the levels of its subblocks.
pub record HasPrediction (predictor : Predictor) (factors : Factors) (place : Place) (p : Image) (c : Coding)
    : Type 0 where
  pub sub_modes : predicts_by_subblocks predictor ≡ is_some c.subblocks
  pub y2 : has_y2 predictor ≡ not (is_some c.subblocks)
  pub at_once : is_some c.subblocks ≡ false → c.prediction.luma ≡ listed 16 (luma_prediction predictor place p.luma)
  pub by_subblocks : (t : Tokens) → IfSome c.subblocks (λ s. HasSubblocks s t
      → with_block p.luma (16 * place.column) (16 * place.row) 16 16
      (λ r c'. slice_index c.prediction.luma (r * 16 + c'))
      ≡ luma_rebuilt (macroblock_of predictor t factors) place p.luma)
  pub u : c.prediction.u ≡ listed 8 (chroma_prediction predictor 1 place p.u)
  pub v : c.prediction.v ≡ listed 8 (chroma_prediction predictor 2 place p.v)

-- the levels of the macroblock at a place: source minus prediction, or with B_PRED those of its subblocks
pub record HasLevels (source : Image) (predictor : Predictor) (factors : Factors) (place : Place) (p : Image)
    (c : Coding) (t : Tokens) : Type 0 where
  pub at_once : is_some c.subblocks ≡ false
      → HasLumaAndY2 (block_pixels 16 source.luma place) (luma_prediction predictor place p.luma) factors t
  pub by_subblocks : IfSome c.subblocks (λ s. HasSubblocks s t)
  pub u : HasChroma (block_pixels 8 source.u place) (chroma_prediction predictor 1 place p.u) factors t 1
  pub v : HasChroma (block_pixels 8 source.v place) (chroma_prediction predictor 2 place p.v) factors t 2

-- a choice by this coding; it is skipped if all its levels are 0
pub record Completes (coding : Coding) (c : Choice) : Type 0 where
  pub modes : c.modes ≡ record coding.modes { skip = not (any_token c.tokens) }
  pub motion : c.motion ≡ coding.motion

-- A coding whose prediction is that of a predictor, which is known once the choice completes it. With its levels the
-- completed choice is as `IsChosen` says.
pub record IsCodedBy (source : Image) (factors : Factors) (place : Place) (p : Image) (predictor : Choice → Predictor)
    (IsChosen : Choice → Type 0) (coding : Coding) : Type 0 where
  pub segment : coding.modes.segment ≡ 0
  pub predicted : (c : Choice) → Completes coding c → HasPrediction (predictor c) factors place p coding
  pub completed : (c : Choice) → Completes coding c → HasLevels source (predictor c) factors place p coding c.tokens
      → IsChosen c

-- the motion can be written, and an intra macroblock has none
pub record IsShortMotion (g : Grid MacroblockMotion) (place : Place) (c : Coding) : Type 0 where
  pub written : is_intra c.modes.reference ≡ false
      → CanBeWritten (candidates g place c.modes.reference no_biases) c.motion
  pub short : IsWithin 259 (last_of c.motion.vectors)
  pub unmoved : is_intra c.modes.reference ≡ true → (c.motion.mode ≡ vector_is.Zero)
      × (c.motion.vectors ≡ replicate 16 zero_vector)

-- the coding whose completion is the choice for the macroblock at a place of p
pub record IsCoding (frame : FrameSearch) (p : Image) (g : Grid MacroblockMotion) (place : Place) (coding : Coding)
    : Type 0 where
  pub luma : LumaChoice
  pub best : IsLuma (block_pixels 16 frame.source.luma place) frame.factors place p.luma luma
  pub coded : IsCodedBy frame.source frame.factors place p (source_by frame.search)
      (IsTaken frame.search frame p g place luma) coding
  pub writable : IfSome coding.subblocks (λ s. AreWritable false s.blocks)
  pub motion : IsShortMotion g place coding
