-- The neighbours of a 4x4 subblock (RFC 6386, chapter 5): in the same macroblock, in another one, or outside the
-- frame. `side` is the number of subblocks in a row of a macroblock: 4 for luma, 2 for chroma. Pinned by the test
-- `vectors_by_their_neighbours`.
use Rattle.std.specs.Prelude.{ℕ, ◌+◌, ◌*◌, ◌/◌, ◌%◌, ◌<◌, ◌≤◌, ◌==◌, ◌&&◌, Bool, Option, Some, None, List}
use Rattle.std.specs.Prelude.{slice_index_or, if◌then◌else◌}
use Rattle.std.specs.Option.{option_map_or}
use Rattle.vp_base.specs.declared.place.Place.{Place}
use Rattle.vp_base.specs.declared.near.Near.{Near}
use Rattle.vp_base.specs.declared.near.Near.TheVariants.{Here, There, Outside}
use Rattle.vp_base.specs.Grid.{Grid, entry}

-- the place of block k of the macroblock at p, in units of blocks of the plane
abbrev pub block_place : ℕ → Place → ℕ → Place
block_place side p k = record { column = p.column * side + k % side; row = p.row * side + k / side }

-- the place of the macroblock that contains a block
abbrev pub macroblock_place : ℕ → Place → Place
macroblock_place side b = record { column = b.column / side; row = b.row / side }

-- the number of a block in its macroblock
abbrev pub block_number : ℕ → Place → ℕ
block_number side b = b.row % side * side + b.column % side

abbrev pub is_same : Place → Place → Bool
is_same p q = p.column == q.column && p.row == q.row

-- the location of a block relative to the macroblock at here; None is outside the frame
unfoldable pub seen_from : ℕ → Place → Option Place → Near
seen_from side here None = Outside
seen_from side here (Some b) =
    if is_same (macroblock_place side b) here then Here (block_number side b) else There (macroblock_place side b)
    (block_number side b)

-- the value of a block: from found in the same macroblock, from the grid in another one, or the default outside
abbrev pub value : {A B : Type 0} → (A → ℕ → B) → B → Grid A → List B → Near → B
value of outside g found (Here k) = slice_index_or found k outside
value of outside g found (There p k) = option_map_or (λ a. of a k) (entry g p) outside
value of outside g found Outside = outside

-- a block in the same macroblock, or in another one that is in no later column and no later row
abbrev pub IsBefore : Place → Near → Type 0
IsBefore here (Here k) = k < 16
IsBefore here (There p k) = (p.column ≤ here.column) × (p.row ≤ here.row) × (k < 16)
IsBefore here Outside = Unit {0}
