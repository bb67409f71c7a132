-- The choices for all macroblocks of a frame; each depends on the reconstruction and the motion of those before it. The
-- last part is inside the crate.
use Rattle.std.specs.Prelude.{◌≡◌, ◌<◌, ◌≤◌, ℕ, false}
use Rattle.vp_base.specs.declared.limits.Dim.{Dim}
use Rattle.vp_base.specs.declared.place.Place.{Place}
use Rattle.vp_base.specs.Grid.{Grid, Has, at}
use Rattle.vp_base.specs.Image.{Image, blank_image, macroblocks}
use Rattle.vp_base.specs.Rows.{AreOneSize}
use Rattle.vp_head.specs.Reference.{is_intra}
use Rattle.vp_motion.specs.Vector.{MacroblockMotion}
use Rattle.vp_motion.specs.Map.{AreWithin, intra}
use Rattle.vp_motion.specs.Near.{candidates}
use Rattle.vp_motion.specs.Spelled.{CanBeWritten}
use Rattle.vp_recon.specs.Predictor.{Macroblock, macroblock_of}
use Rattle.vp_recon.specs.Rebuilt.{all_rebuilt}
use Rattle.vp_choose.specs.declared.frame.Choice.{Choice}
use Rattle.vp_choose.specs.Frame.{FrameSearch, source_by, no_biases, choice_motion}
use Rattle.vp_choose.specs.Choice.{IsChoice}
use Rattle.vp_decode.specs.MacroblockMaps.{place}
use Rattle.vp_encode.specs.declared.frame_choices.FrameChoices.{FrameChoices}
use Rattle.vp_encode.specs.CodedFrame.{choice_at, saved_motion, saved_motions}
use Rattle.vp_encode.specs.Choice.{rebuilt_before}

-- the macroblock that results from a choice
abbrev pub macroblock_by : FrameSearch → Choice → Macroblock
macroblock_by frame c = macroblock_of (source_by frame.search c) c.tokens frame.factors

-- the reconstruction of the macroblocks before p
abbrev pub picture_before : FrameSearch → Grid Choice → Place → Image
picture_before frame g = rebuilt_before frame.source.width frame.source.height
    (λ q. macroblock_by frame (choice_at g q))

-- the macroblock at p is the choice, given the reconstruction and the motion of those before it; its motion can be
-- written, and is zero if it is intra
pub record IsChosenAt (frame : FrameSearch) (g : Grid Choice) (p : Place) : Type 0 where
  pub is : IsChoice frame (picture_before frame g p) (saved_motions g) p (choice_at g p)
  pub written : is_intra (choice_at g p).modes.reference ≡ false
      → CanBeWritten (candidates (saved_motions g) p (choice_at g p).modes.reference no_biases) (choice_at g p).motion
  pub motion : saved_motion (choice_at g p) ≡ choice_motion (choice_at g p)

-- all macroblocks of the frame are chosen
pub record AreChosen (frame : FrameSearch) (g : Grid Choice) : Type 0 where
  pub columns : g.columns ≡ macroblocks frame.source.width
  pub rows : g.rows ≡ macroblocks frame.source.height
  pub each : (p : Place) → Has g p → IsChosenAt frame g p

-- a segment map for a frame of this size, in which all segments are 0
pub record AreUnsegmented (dim : Dim) (g : Grid ℕ) : Type 0 where
  pub columns : g.columns ≡ macroblocks dim.w
  pub rows : g.rows ≡ macroblocks dim.h
  pub zero : (p : Place) → Has g p → at 0 g p ≡ 0

-- ---- inside the crate

-- the picture that results from the choices, before the loop filter
abbrev pub picture_by : FrameSearch → Grid Choice → Image
picture_by frame g =
    all_rebuilt (λ q. macroblock_by frame (choice_at g q))
    (blank_image frame.source.width frame.source.height 0)

-- q is before p in raster order
pub record IsBeforeInRaster (q p : Place) : Type 0 where
  pub row : q.row ≤ p.row
  pub column : q.row ≡ p.row → q.column < p.column

-- k has the motion of the macroblocks before p
pub record IsMotionBefore (g : Grid Choice) (p : Place) (k : Grid MacroblockMotion) : Type 0 where
  pub columns : k.columns ≡ g.columns
  pub rows : k.rows ≡ g.rows
  pub moved : (q : Place) → Has g q → IsBeforeInRaster q p → at intra k q ≡ saved_motion (choice_at g q)

-- k has the motion of all macroblocks
abbrev pub IsMotionOf : Grid Choice → Grid MacroblockMotion → Type 0
IsMotionOf g k = IsMotionBefore g (place g.rows 0) k

-- the macroblocks before p are chosen, and have this picture and this motion
pub record IsChosenUpTo (frame : FrameSearch) (p : Place) (g : Grid Choice) (z : Image) (k : Grid MacroblockMotion)
    : Type 0 where
  pub picture : z ≡ picture_before frame g p
  pub motion : IsMotionBefore g p k
  pub each : (q : Place) → Has g q → IsBeforeInRaster q p → IsChosenAt frame g q

-- g is h with other choices from p on
pub record IsContinuedAt (h : Grid Choice) (p : Place) (g : Grid Choice) : Type 0 where
  pub columns : g.columns ≡ h.columns
  pub rows : g.rows ≡ h.rows
  pub same : (q : Place) → IsBeforeInRaster q p → choice_at g q ≡ choice_at h q

-- the macroblocks before p are chosen, whatever is chosen from p on
pub record AreChosenBefore (frame : FrameSearch) (p : Place) (b : FrameChoices) : Type 0 where
  pub size : AreOneSize frame.source b.picture
  pub columns : b.chosen.columns ≡ macroblocks frame.source.width
  pub rows : b.chosen.rows ≡ macroblocks frame.source.height
  pub motion_columns : b.motion.columns ≡ b.chosen.columns
  pub motion_rows : b.motion.rows ≡ b.chosen.rows
  pub short : AreWithin 511 b.motion
  pub up_to : (g : Grid Choice) → IsContinuedAt b.chosen p g → IsChosenUpTo frame p g b.picture b.motion
