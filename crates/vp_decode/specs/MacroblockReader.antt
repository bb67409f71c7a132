-- Private to the crate: the macroblocks of a frame while they are read in raster order (RFC 6386, chapter 19.3), and
-- the list that they lie in.
use Rattle.std.specs.Prelude.{◌≡◌, ℕ, ◌+◌, ◌*◌, ◌++◌, List, length, map, drop, Option, Some, None}
use Rattle.vp_base.specs.declared.place.Place.{Place}
use Rattle.vp_base.specs.Grid.{Grid, Has, repeated, with_entry}
use Rattle.vp_modes.specs.Entry.{Modes, plain, plain_of}
use Rattle.vp_decode.specs.declared.macroblocks.Macroblock.{Macroblock}
use Rattle.vp_decode.specs.MacroblockMaps.{MacroblockMaps}
use Rattle.vp_decode.specs.Step.{maps_before}

-- the maps of a frame with these macroblocks, in raster order
abbrev pub maps_of : ℕ → ℕ → List Macroblock → MacroblockMaps
maps_of columns rows macroblocks = record {
  modes = record { columns = columns; rows = rows; entries = map (λ m. m.modes) macroblocks };
  motion = record { columns = columns; rows = rows; entries = map (λ m. m.motion) macroblocks };
}

-- the size of a frame in macroblocks, the segments that are kept of the frame before (none for a key frame), and the
-- macroblocks that are read, both in raster order
pub record MacroblockReader : Type 0 where
  pub columns : ℕ
  pub rows : ℕ
  pub kept_segments : Option (List ℕ)
  pub read : List Macroblock

-- the modes of a frame's macroblocks before they are read: those of the kept segments, or `plain`
abbrev pub kept_modes : ℕ → ℕ → Option (List ℕ) → List Modes
kept_modes columns rows None = repeated columns rows plain
kept_modes columns rows (Some segments) = map plain_of segments

-- the same, by place
abbrev pub modes_before : MacroblockReader → Grid Modes
modes_before r = record { columns = r.columns; rows = r.rows; entries = kept_modes r.columns r.rows r.kept_segments }

-- the first entries are replaced by those that are read
unfoldable pub begun : {A : Type 0} → List A → List A → List A
begun before read = read ++ drop (length read) before

-- the grid whose first entries, in raster order, are those that are read
abbrev pub begun_grid : {A : Type 0} → Grid A → List A → Grid A
begun_grid g read = record g { entries = begun g.entries read }

-- the maps of the frame so far: macroblocks that are not read have their modes before the frame, and no motion
abbrev pub maps_so_far : MacroblockReader → MacroblockMaps
maps_so_far r = record {
  modes = begun_grid (modes_before r) (map (λ m. m.modes) r.read);
  motion = begun_grid (maps_before (modes_before r)).motion (map (λ m. m.motion) r.read);
}

-- the macroblock at p is the next one
pub record IsNext (r : MacroblockReader) (p : Place) : Type 0 where
  pub inside : Has (modes_before r) p
  pub number : length r.read ≡ p.row * r.columns + p.column

-- n macroblocks more are read of a frame of this size
pub record IsAhead (before after : MacroblockReader) (n : ℕ) : Type 0 where
  pub columns : after.columns ≡ before.columns
  pub rows : after.rows ≡ before.rows
  pub read : length after.read ≡ length before.read + n

-- m with this macroblock at p
abbrev pub with_macroblock : MacroblockMaps → Place → Macroblock → MacroblockMaps
with_macroblock m p a = record { modes = with_entry m.modes p a.modes; motion = with_entry m.motion p a.motion }
