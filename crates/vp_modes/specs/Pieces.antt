-- Private to the crate: what functions of their own read of a macroblock's modes.
use Rattle.std.specs.Prelude.{ℕ, List}
use Rattle.vp_base.specs.declared.place.Place.{Place}
use Rattle.vp_base.specs.Grid.{Grid}
use Rattle.vp_bool.specs.Reader.{Reader, when}
use Rattle.vp_tree.specs.Tree.{walk_from}
use Rattle.vp_tables.specs.declared.modes.SubMode.{SubMode}
use Rattle.vp_tables.specs.declared.modes.SubMode.TheVariants as sub_is
use Rattle.vp_tables.specs.declared.trees.TheConstants.{SEGMENT_TREE, SUB_TREE}
use Rattle.vp_head.specs.declared.fields.Header.{Header}
use Rattle.vp_head.specs.Reference.{is_intra}
use Rattle.vp_modes.specs.Entry.{Modes}
use Rattle.vp_modes.specs.Modes.{intra_modes}

-- a segment id by the segment tree
abbrev pub segment_id : List ℕ → Reader ℕ
segment_id probabilities = walk_from 0 SEGMENT_TREE probabilities 0

-- a subblock mode with these probabilities
abbrev pub sub_mode : List ℕ → Reader SubMode
sub_mode probabilities = walk_from sub_is.Dc SUB_TREE probabilities 0

-- the modes of an intra macroblock, after its header m; an inter macroblock has none
abbrev pub prediction : Header → Grid Modes → Place → Modes → Reader Modes
prediction h g p m = when (is_intra m.reference) (intra_modes h g p m) m
