-- Grids (RFC 6386, chapter 5): one entry for each macroblock or subblock of a frame, in raster order. Pinned by the
-- tests `modes_by_their_neighbours` and `vectors_by_their_neighbours`.
use Rattle.std.specs.Prelude.{ℕ, ◌+◌, ◌*◌, ◌<◌, ◌/◌, ◌%◌, nat_lt, map, Option, None, List, replicate, slice_get}
use Rattle.std.specs.Prelude.{slice_set, if◌then◌else◌}
use Rattle.std.specs.List.{range_with_len}
use Rattle.std.specs.Option.{unwrap_or, option_map_or}
use Rattle.vp_base.specs.declared.place.Place.{Place}

-- the entries are in raster order
pub record Grid (A : Type 0) : Type 0 where
  pub columns : ℕ
  pub rows : ℕ
  pub entries : List A

-- p is a place of the grid
pub record Has {A : Type 0} (g : Grid A) (p : Place) : Type 0 where
  pub column : p.column < g.columns
  pub row : p.row < g.rows

-- the entry at a place; None outside the grid: past the last row the list has no entry
unfoldable pub entry : {A : Type 0} → Grid A → Place → Option A
entry g p = if nat_lt p.column g.columns then slice_get g.entries (p.row * g.columns + p.column) else None

-- the entry at a place, or a default outside the grid
abbrev pub at : {A : Type 0} → A → Grid A → Place → A
at outside g p = unwrap_or (entry g p) outside

-- the entry at an optional place, or the default if there is none
abbrev pub look : {A : Type 0} → A → Grid A → Option Place → A
look outside g p = option_map_or (at outside g) p outside

-- the entries with the one at place p replaced by a
unfoldable pub changed : {A : Type 0} → Grid A → Place → A → List A
changed g p a = slice_set g.entries (p.row * g.columns + p.column) a

-- the grid with the entry at place p replaced by a
abbrev pub with_entry : {A : Type 0} → Grid A → Place → A → Grid A
with_entry g p a = record g { entries = changed g p a }

-- the entries of a grid that has a at each place
unfoldable pub repeated : {A : Type 0} → ℕ → ℕ → A → List A
repeated columns rows a = replicate (rows * columns) a

-- the place of entry i, in raster order
abbrev pub place_of : ℕ → ℕ → Place
place_of columns i = record { column = i % columns; row = i / columns }

-- f of each place, in raster order
unfoldable pub listed : {A : Type 0} → ℕ → ℕ → (Place → A) → List A
listed columns rows f = map (λ i. f (place_of columns i)) (range_with_len 0 (rows * columns))

-- the grid that has f p at each place p
abbrev pub filled : {A : Type 0} → ℕ → ℕ → (Place → A) → Grid A
filled columns rows f = record { columns = columns; rows = rows; entries = listed columns rows f }

-- the grid with f applied to each entry
abbrev pub mapped : {A B : Type 0} → (A → B) → Grid A → Grid B
mapped f g = record { columns = g.columns; rows = g.rows; entries = map f g.entries }

-- the grid that has a at each place
abbrev pub all : {A : Type 0} → ℕ → ℕ → A → Grid A
all columns rows a = record { columns = columns; rows = rows; entries = repeated columns rows a }
