-- A frame to be written: its header, and each macroblock's modes, motion and tokens (RFC 6386, chapters 5, 9, 13, 16
-- and 19). Pinned by the test `flat_macroblock`.
use Rattle.std.specs.Prelude.{◌≡◌, Bool, true, false, not, replicate, if◌then◌else◌}
use Rattle.vp_base.specs.declared.place.Place.{Place}
use Rattle.vp_base.specs.Grid.{Grid, Has, at, mapped}
use Rattle.vp_tables.specs.declared.modes.VectorMode.TheVariants as vector_is
use Rattle.vp_tables.specs.Modes.{is_by_subblocks, is_split}
use Rattle.vp_head.specs.declared.fields.Saved.{Saved}
use Rattle.vp_head.specs.Reference.{is_intra}
use Rattle.vp_head.specs.Spelled as head
use Rattle.vp_modes.specs.Entry.{Modes, plain}
use Rattle.vp_modes.specs.Spelled as modes
use Rattle.vp_motion.specs.Vector.{MacroblockMotion, zero_vector}
use Rattle.vp_motion.specs.Map.{intra}
use Rattle.vp_motion.specs.Near.{candidates}
use Rattle.vp_motion.specs.Spelled as motion
use Rattle.vp_tokens.specs.Blocks.{no_blocks}
use Rattle.vp_tokens.specs.Spelled.{AreSpelled}
use Rattle.vp_choose.specs.declared.frame.Choice.{Choice}
use Rattle.vp_encode.specs.declared.coded_frame.CodedFrame.{CodedFrame}

-- the choice that is assumed outside the frame
unfoldable pub nothing : Choice
nothing = record {
  modes = plain;
  motion = record { mode = vector_is.Zero; vectors = replicate 16 zero_vector };
  tokens = record { blocks = no_blocks };
}

-- the choice for the macroblock at p
abbrev pub choice_at : Grid Choice → Place → Choice
choice_at g p = at nothing g p

-- that of the frame
abbrev pub coded_choice : CodedFrame → Place → Choice
coded_choice c p = choice_at c.macroblocks p

-- the motion that later macroblocks see: an intra macroblock has none
abbrev pub saved_motion : Choice → MacroblockMotion
saved_motion m =
    if is_intra m.modes.reference then intra
    else record { reference = m.modes.reference; mode = m.motion.mode; vectors = m.motion.vectors }

-- the motion of all macroblocks
abbrev pub saved_motions : Grid Choice → Grid MacroblockMotion
saved_motions g = mapped saved_motion g

-- whether a macroblock has a Y2 block (chapter 13)
abbrev pub choice_has_y2 : Choice → Bool
choice_has_y2 m = if is_intra m.modes.reference then not (is_by_subblocks m.modes.luma) else not
    (is_split m.motion.mode)

-- the modes can be written; segments are coded relative to those before the frame
abbrev pub AreModesSpelled : CodedFrame → Grid Modes → Type 0
AreModesSpelled c before = (p : Place) → Has c.macroblocks p → modes.AreWritableModes c.header before p
    (coded_choice c p).modes

-- an inter macroblock has no luma mode, so that it is not B_PRED
abbrev pub IsInterPlain : CodedFrame → Type 0
IsInterPlain c = (p : Place) → Has c.macroblocks p → is_intra (coded_choice c p).modes.reference ≡ false
    → is_by_subblocks (coded_choice c p).modes.luma ≡ false

-- the vectors can be written, relative to those of the macroblocks above and to the left
abbrev pub IsMotionSpelled : CodedFrame → Type 0
IsMotionSpelled c = (p : Place) → Has c.macroblocks p → is_intra (coded_choice c p).modes.reference ≡ false
    → motion.CanBeWritten (candidates (saved_motions c.macroblocks) p (coded_choice c p).modes.reference c.header.biases)
    (coded_choice c p).motion

-- the tokens can be written; a skipped macroblock has none
pub record AreTokensSpelled (c : CodedFrame) : Type 0 where
  pub blocks : (p : Place) → Has c.macroblocks p → AreSpelled (choice_has_y2 (coded_choice c p))
      (coded_choice c p).tokens.blocks
  pub skipped : (p : Place) → Has c.macroblocks p → (coded_choice c p).modes.skip ≡ true
      → (coded_choice c p).tokens.blocks ≡ no_blocks

-- the frame can be written: a key frame or an inter frame, relative to the saved values and the modes before it
pub record CanBeEncoded (key : Bool) (kept : Saved) (before : Grid Modes) (c : CodedFrame) : Type 0 where
  pub header : head.IsWritableHeader key kept c.header
  pub modes : AreModesSpelled c before
  pub motion : IsMotionSpelled c
  pub tokens : AreTokensSpelled c
