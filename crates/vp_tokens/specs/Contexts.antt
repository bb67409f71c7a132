-- The context flags that the code keeps while it reads the tokens of a frame (RFC 6386, chapter 13.3). There are nine
-- for each column and nine for the row. Their meaning is stated in terms of the blocks read before.
use Rattle.std.specs.Prelude.{◌≡◌, ◌<◌, ℕ, ◌+◌, ◌*◌, Bool, false, nat_lt, List, [], ◌∷◌, length, map}
use Rattle.std.specs.Prelude.{slice_index_or, if◌then◌else◌}
use Rattle.vp_base.specs.declared.place.Place.{Place}
use Rattle.vp_base.specs.Place as place
use Rattle.vp_base.specs.Grid.{Grid, look}
use Rattle.vp_tokens.specs.Block.{Block, has_token}
use Rattle.vp_tokens.specs.Blocks.{Blocks, no_blocks_read, y2_above, y2_left}

-- flag k; false past the end
abbrev pub flag_at : List Bool → ℕ → Bool
flag_at flags k = slice_index_or flags k false

-- which blocks have a token
abbrev pub had_of : List Block → List Bool
had_of blocks = map has_token blocks

-- nine flags for each column, and nine for the row: 4 Y, 2 U, 2 V, 1 Y2
pub record Contexts : Type 0 where
  pub above : List (List Bool)
  pub left : List Bool

-- which blocks in the bottom rows of a macroblock have a token, and which in its right columns; each followed by a Y2
-- flag
abbrev pub bottom_row_flags : List Bool → Bool → List Bool
bottom_row_flags had y2 =
    flag_at had 13 ∷ flag_at had 14 ∷ flag_at had 15 ∷ flag_at had 16 ∷ flag_at had 19 ∷ flag_at had 20 ∷ flag_at had 23
    ∷ flag_at had 24 ∷ y2 ∷ []

abbrev pub right_column_flags : List Bool → Bool → List Bool
right_column_flags had y2 =
    flag_at had 4 ∷ flag_at had 8 ∷ flag_at had 12 ∷ flag_at had 16 ∷ flag_at had 18 ∷ flag_at had 20 ∷ flag_at had 22
    ∷ flag_at had 24 ∷ y2 ∷ []

-- the flags above the macroblock at p, and to its left
unfoldable pub above_flags : Grid Blocks → Place → List Bool
above_flags g p = bottom_row_flags (look no_blocks_read g (place.above p)).had (y2_above g p)

unfoldable pub left_flags : Grid Blocks → Place → List Bool
left_flags g p = right_column_flags (look no_blocks_read g (place.left p)).had (y2_left g p)

-- the first macroblock of column u that was not read; those before p in raster order were
abbrev pub first_unread : Place → ℕ → Place
first_unread p u = record { column = u; row = (if nat_lt u p.column then p.row + 1 else p.row) }

-- The flags are those of the macroblocks before p, in raster order, in g. After a row, p is the place right of its
-- last macroblock, or the first place of the next row.
pub record AreContextsAt (g : Grid Blocks) (p : Place) (c : Contexts) : Type 0 where
  pub whole : length g.entries ≡ g.rows * g.columns
  pub columns : length c.above ≡ g.columns
  pub above : (u : ℕ) → u < g.columns → slice_index_or c.above u [] ≡ above_flags g (first_unread p u)
  pub left : 0 < p.column → c.left ≡ left_flags g p

-- the place to the right
abbrev pub right : Place → Place
right p = record { column = p.column + 1; row = p.row }
