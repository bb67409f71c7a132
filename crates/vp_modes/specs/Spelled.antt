-- Which modes of a macroblock can be written (RFC 6386, chapter 19.3): fields that aren't coded must have the value
-- that a reader infers. Pinned by the test `a_picture_written_again`.
use Rattle.std.specs.Prelude.{◌≡◌, false, true, replicate, None, if◌then◌else◌}
use Rattle.vp_base.specs.declared.place.Place.{Place}
use Rattle.vp_base.specs.Grid.{Grid, at}
use Rattle.vp_bool.specs.Bools.{State}
use Rattle.vp_tables.specs.declared.modes.SubMode.TheVariants as sub_is
use Rattle.vp_tables.specs.Modes.{is_by_subblocks}
use Rattle.vp_head.specs.declared.fields.Header.{Header}
use Rattle.vp_head.specs.declared.fields.Reference.TheVariants as reference_is
use Rattle.vp_head.specs.Reference.{is_intra}
use Rattle.vp_modes.specs.Entry.{Modes, plain, unread}
use Rattle.vp_modes.specs.Modes.{modes_at}

-- the modes m can be written at p; g contains at p the modes of the previous frame
pub record AreWritableModes (h : Header) (g : Grid Modes) (p : Place) (m : Modes) : Type 0 where
  pub segment : h.segmentation.update_map ≡ false → m.segment ≡ (if h.key then 0 else (at plain g p).segment)
  pub skip : h.skip ≡ None → m.skip ≡ false
  pub reference : h.key ≡ true → m.reference ≡ reference_is.Intra
  -- an inter macroblock has no intra modes
  pub inter : is_intra m.reference ≡ false → m ≡ unread m.segment m.skip m.reference
  pub subs : is_by_subblocks m.luma ≡ false → m.subs ≡ replicate 16 sub_is.Dc

-- The modes of each macroblock that can be read can also be written.
abbrev pub CanBeWrittenAgain : Type 0
CanBeWrittenAgain = (h : Header) (g : Grid Modes) (p : Place) (s : State) → AreWritableModes h g p (modes_at h g p s).0
