-- The modes and motion of all macroblocks, read in raster order from the first partition (RFC 6386, chapter 19.3).
-- Pinned by the test `split_vectors_far_outside`, and by streams of other encoders in the gate.
use Rattle.std.specs.Prelude.{ℕ, not}
use Rattle.vp_bool.specs.Reader.{Reader, ◌>>=◌, give, when, rows}
use Rattle.vp_base.specs.declared.place.Place.{Place}
use Rattle.vp_base.specs.Grid.{Grid, at, with_entry}
use Rattle.vp_head.specs.declared.fields.Header.{Header}
use Rattle.vp_head.specs.declared.fields.Reference.{Reference}
use Rattle.vp_head.specs.Reference.{is_intra}
use Rattle.vp_modes.specs.Entry.{Modes, plain}
use Rattle.vp_modes.specs.Modes.{modes_at}
use Rattle.vp_motion.specs.Vector.{MacroblockMotion}
use Rattle.vp_motion.specs.Map.{intra}
use Rattle.vp_motion.specs.Motion.{motion_at}

-- the modes and the motion of each macroblock
pub record MacroblockMaps : Type 0 where
  pub modes : Grid Modes
  pub motion : Grid MacroblockMotion

-- outside the frame the modes are `plain`
abbrev pub modes_in : MacroblockMaps → Place → Modes
modes_in m p = at plain m.modes p

-- outside the frame the motion is `intra`
abbrev pub motion_in : MacroblockMaps → Place → MacroblockMotion
motion_in m p = at intra m.motion p

-- the place of a macroblock in a row
abbrev pub place : ℕ → ℕ → Place
place row column = record { column = column; row = row }

-- m with these modes at p
abbrev pub with_modes : MacroblockMaps → Place → Modes → MacroblockMaps
with_modes m p modes = record m { modes = with_entry m.modes p modes }

-- reads the motion of an inter macroblock
unfoldable pub motion_read : Header → Place → Reference → MacroblockMaps → Reader MacroblockMaps
motion_read h p reference m = do
  motion ← motion_at h m.motion p reference
  give (record m {
    motion = with_entry m.motion p (record { reference = reference; mode = motion.mode; vectors = motion.vectors });
  })

-- reads a macroblock: its modes, then its motion if it is an inter macroblock
unfoldable pub macroblock_read : Header → Place → MacroblockMaps → Reader MacroblockMaps
macroblock_read h p m = do
  modes ← modes_at h m.modes p
  when (not (is_intra modes.reference)) (motion_read h p modes.reference (with_modes m p modes)) (with_modes m p modes)

-- reads the first `columns` macroblocks of a row
unfoldable pub row_read : Header → ℕ → ℕ → MacroblockMaps → Reader MacroblockMaps
row_read h columns row = rows columns (λ column. macroblock_read h (place row column))

-- reads all rows
unfoldable pub maps_read : Header → MacroblockMaps → Reader MacroblockMaps
maps_read h m = rows m.modes.rows (row_read h m.modes.columns) m
