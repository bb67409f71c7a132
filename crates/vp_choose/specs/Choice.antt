-- The encoder's choice for one macroblock: intra or inter, by cost. RFC 6386 leaves it open. Pinned by the tests
-- `encode_flat_bright` and `a_still_macroblock`.
use Rattle.std.specs.Prelude.{◌≡◌, ◌<◌, ◌≤◌, false, not, Option, Some, None}
use Rattle.vp_base.specs.declared.place.Place.{Place}
use Rattle.vp_base.specs.Grid.{Grid}
use Rattle.vp_base.specs.Image.{Image}
use Rattle.vp_motion.specs.Vector.{MacroblockMotion}
use Rattle.vp_tokens.specs.Blocks.{any_token, no_blocks}
use Rattle.vp_tokens.specs.Spelled.{AreSpelled, AreTight}
use Rattle.vp_recon.specs.Predictor.{has_y2}
use Rattle.vp_choose.specs.declared.motion.Moved.{Moved}
use Rattle.vp_choose.specs.declared.frame.Choice.{Choice}
use Rattle.vp_choose.specs.Costs.{block_pixels}
use Rattle.vp_choose.specs.Frame.{FrameSearch, Search, source_by}
use Rattle.vp_choose.specs.Intra.{LumaChoice, IsLuma, IsIntra}
use Rattle.vp_choose.specs.Inter.{IsMoved, IsInter}

-- the intra choice with this luma
abbrev pub IsIntraChoice : FrameSearch → Image → Place → LumaChoice → Choice → Type 0
IsIntraChoice frame p place luma c = IsIntra frame.source frame.factors place p luma c.modes c.tokens

-- inter is chosen if it costs no more than the intra luma
pub record IsWeighed (frame : FrameSearch) (s : Search) (p : Image) (g : Grid MacroblockMotion) (place : Place)
    (luma : LumaChoice) (c : Choice) : Type 0 where
  pub moved : Moved
  pub is : IsMoved s frame.source.luma place moved
  pub inter : moved.cost ≤ luma.cost → IsInter frame.source frame.factors s g place p moved c
  pub intra : luma.cost < moved.cost → IsIntraChoice frame p place luma c

-- in a key frame all macroblocks are intra
abbrev pub IsTaken : Option Search → FrameSearch → Image → Grid MacroblockMotion → Place → LumaChoice → Choice → Type 0
IsTaken None frame p g place luma c = IsIntraChoice frame p place luma c
IsTaken (Some s) frame p g place luma c = IsWeighed frame s p g place luma c

-- the choice for the macroblock at a place of p; the macroblocks before it are rebuilt and not filtered yet, and g has
-- their motion
pub record IsChoice (frame : FrameSearch) (p : Image) (g : Grid MacroblockMotion) (place : Place) (c : Choice)
    : Type 0 where
  pub luma : LumaChoice
  pub best : IsLuma (block_pixels 16 frame.source.luma place) frame.factors place p.luma luma
  pub taken : IsTaken frame.search frame p g place luma c
  -- segments are not used
  pub segment : c.modes.segment ≡ 0
  -- a macroblock is skipped if all its levels are 0
  pub skip : c.modes.skip ≡ not (any_token c.tokens)
  pub none : any_token c.tokens ≡ false → c.tokens.blocks ≡ no_blocks
  -- a block's end of block follows its last nonzero level
  pub tight : AreTight c.tokens.blocks
  pub spelled : AreSpelled (has_y2 (source_by frame.search c)) c.tokens.blocks
