-- The statement of the law `modes_and_motion_are_read_in_their_place` (RFC 6386, chapter 19.3): the modes and motion of
-- a macroblock are read directly after those of all macroblocks before it.
use Rattle.std.specs.Prelude.{◌≡◌, ◌*◌, true, false, length}
use Rattle.vp_bool.specs.Bools.{State}
use Rattle.vp_bool.specs.Reader.{Reader, ◌>>=◌, rows}
use Rattle.vp_base.specs.declared.place.Place.{Place}
use Rattle.vp_head.specs.declared.fields.Header.{Header}
use Rattle.vp_head.specs.declared.fields.Reference.{Reference}
use Rattle.vp_head.specs.Reference.{is_intra}
use Rattle.vp_modes.specs.Entry.{Modes}
use Rattle.vp_modes.specs.Modes.{modes_at}
use Rattle.vp_motion.specs.Vector.{MacroblockMotion, Motion}
use Rattle.vp_motion.specs.Motion.{motion_at}
use Rattle.vp_decode.specs.MacroblockMaps.{MacroblockMaps, modes_in, motion_in, row_read, maps_read}

-- modes and motion have one size, with an entry for each place
pub record AreMaps (m : MacroblockMaps) : Type 0 where
  pub columns : m.motion.columns ≡ m.modes.columns
  pub rows : m.motion.rows ≡ m.modes.rows
  pub modes : length m.modes.entries ≡ m.modes.rows * m.modes.columns
  pub motion : length m.motion.entries ≡ m.motion.rows * m.motion.columns

-- reads the macroblocks before p: the rows above it, then those to its left
unfoldable pub read_before : Header → Place → MacroblockMaps → Reader MacroblockMaps
read_before h p m = do
  above ← rows p.row (row_read h m.modes.columns) m
  row_read h p.column p.row above

-- the motion of a macroblock with its reference
abbrev pub moved : Reference → Motion → MacroblockMotion
moved reference motion = record { reference = reference; mode = motion.mode; vectors = motion.vectors }

-- reads the modes at p, after all macroblocks before it
abbrev pub modes_when_read : Header → Place → MacroblockMaps → Reader Modes
modes_when_read h p m s = modes_at h (read_before h p m s).0.modes p (read_before h p m s).1

-- After all macroblocks are read, the macroblock at p has the modes that were read at its turn. An inter macroblock has
-- the motion that was read after them; the motion of an intra macroblock is unchanged.
pub record AreReadInOrder (h : Header) (m : MacroblockMaps) (s : State) (p : Place) : Type 0 where
  pub modes : modes_in (maps_read h m s).0 p ≡ (modes_when_read h p m s).0
  pub motion : is_intra (modes_when_read h p m s).0.reference ≡ false
      → motion_in (maps_read h m s).0 p
      ≡ moved (modes_when_read h p m s).0.reference
      (motion_at h (read_before h p m s).0.motion p (modes_when_read h p m s).0.reference (modes_when_read h p m s).1).0
  pub unmoved : is_intra (modes_when_read h p m s).0.reference ≡ true → motion_in (maps_read h m s).0 p ≡ motion_in m p
