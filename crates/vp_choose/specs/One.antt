-- The statement of the law `choice_is_one`: the choice for a macroblock is unique.
use Rattle.std.specs.Prelude.{◌≡◌, ◌<◌, ℕ, false, length}
use Rattle.vp_base.specs.declared.place.Place.{Place}
use Rattle.vp_base.specs.Grid.{Grid}
use Rattle.vp_base.specs.Image.{Image}
use Rattle.vp_head.specs.Reference.{is_intra}
use Rattle.vp_motion.specs.Vector.{MacroblockMotion}
use Rattle.vp_tokens.specs.Block.{IsBlock}
use Rattle.vp_tokens.specs.Blocks.{block_of as tokens_of}
use Rattle.vp_choose.specs.declared.frame.Choice.{Choice}
use Rattle.vp_choose.specs.Frame.{FrameSearch}
use Rattle.vp_choose.specs.Choice.{IsChoice}

-- the lengths of any choice in memory: sixteen subblock modes, and 25 blocks
pub record IsWellFormedChoice (c : Choice) : Type 0 where
  pub subs : length c.modes.subs ≡ 16
  pub number : length c.tokens.blocks ≡ 25
  pub blocks : (k : ℕ) → k < 25 → IsBlock (tokens_of c.tokens k)

-- the choices are equal, except for the unused motion of an intra macroblock
pub record AreSameChoice (a b : Choice) : Type 0 where
  pub modes : a.modes ≡ b.modes
  pub tokens : a.tokens ≡ b.tokens
  pub motion : is_intra a.modes.reference ≡ false → a.motion ≡ b.motion

-- two choices for one macroblock are equal
abbrev pub ChoiceIsOne : Type 0
ChoiceIsOne = (frame : FrameSearch) (p : Image) (g : Grid MacroblockMotion) (place : Place) (a b : Choice)
    → IsWellFormedChoice a → IsWellFormedChoice b
    → IsChoice frame p g place a → IsChoice frame p g place b → AreSameChoice a b
