-- The modes of a frame's macroblocks: the segment map that the next frame inherits (RFC 6386, chapters 9.3 and 10),
-- and the contexts of subblock modes (chapter 11.3). Pinned by the tests `modes_of_a_picture` and
-- `modes_by_their_neighbours`.
use Rattle.std.specs.Prelude.{ℕ, List, slice_index_or, if◌then◌else◌}
use Rattle.vp_base.specs.declared.place.Place.{Place}
use Rattle.vp_base.specs.Place.{above, left}
use Rattle.vp_base.specs.Grid.{Grid, mapped}
use Rattle.vp_base.specs.Near.{block_place, seen_from, value}
use Rattle.vp_tables.specs.declared.modes.LumaMode.{LumaMode}
use Rattle.vp_tables.specs.declared.modes.LumaMode.TheVariants as luma_is
use Rattle.vp_tables.specs.declared.modes.SubMode.{SubMode}
use Rattle.vp_tables.specs.declared.modes.SubMode.TheVariants as sub_is
use Rattle.vp_tables.specs.Modes.{is_by_subblocks}
use Rattle.vp_modes.specs.Entry.{Modes, plain_of}

-- the segments of a frame's macroblocks, which the next frame inherits (chapter 9.3)
abbrev pub segments_of : Grid Modes → Grid ℕ
segments_of g = mapped (λ m. m.segment) g

-- the modes before a frame is read: default modes, with the inherited segments
abbrev pub of_segments : Grid ℕ → Grid Modes
of_segments g = mapped plain_of g

-- the subblock mode that a whole-block luma mode counts as (chapter 11.3)
abbrev pub implied_submode : LumaMode → SubMode
implied_submode luma_is.V = sub_is.Ve
implied_submode luma_is.H = sub_is.He
implied_submode luma_is.Tm = sub_is.Tm
implied_submode _ = sub_is.Dc

-- the mode of subblock k of a macroblock
unfoldable pub sub_of : Modes → ℕ → SubMode
sub_of m k = if is_by_subblocks m.luma then slice_index_or m.subs k sub_is.Dc else implied_submode m.luma

-- The modes above subblock k of the macroblock at p, and to its left. found contains its subblock modes before k.
-- Outside the frame the mode is DC.
unfoldable pub context_above : Grid Modes → Place → List SubMode → ℕ → SubMode
context_above g p found k = value sub_of sub_is.Dc g found (seen_from 4 p (above (block_place 4 p k)))

unfoldable pub context_left : Grid Modes → Place → List SubMode → ℕ → SubMode
context_left g p found k = value sub_of sub_is.Dc g found (seen_from 4 p (left (block_place 4 p k)))
