-- Private to the crate: what functions of their own read of a vector and of a part.
use Rattle.std.specs.Prelude.{ℕ, ◌+◌, ◌^◌, nat_lt, List, [], slice_index, slice_index_or, if◌then◌else◌}
use Rattle.std.specs.List.{slice_range}
use Rattle.vp_bool.specs.Bools.{read}
use Rattle.vp_bool.specs.Reader.{Reader, ◌>>=◌, give, when}
use Rattle.vp_tree.specs.Tree.{walk_from}
use Rattle.vp_tables.specs.declared.mode_probabilities.TheConstants.{PART_PROBABILITIES, SPLIT_PROBABILITIES}
use Rattle.vp_tables.specs.declared.modes.PartMode.{PartMode}
use Rattle.vp_tables.specs.declared.modes.PartMode.TheVariants as part_is
use Rattle.vp_tables.specs.declared.modes.SplitKind.{SplitKind}
use Rattle.vp_tables.specs.declared.modes.SplitKind.TheVariants as kind_is
use Rattle.vp_tables.specs.declared.trees.TheConstants.{PART_TREE, SHORT_VECTOR_TREE, SPLIT_TREE}
use Rattle.vp_tables.specs.declared.modes.VectorMode.{VectorMode}
use Rattle.vp_base.specs.declared.place.Place.{Place}
use Rattle.vp_base.specs.Grid.{Grid}
use Rattle.vp_motion.specs.Vector.{Vector, MacroblockMotion, Motion, Candidates}
use Rattle.vp_motion.specs.Motion.{split_context, vectors_by}

-- the value of bit i of a long magnitude
unfoldable pub bit : List ℕ → ℕ → Reader ℕ
bit probabilities i = do
  set ← read (slice_index probabilities (9 + i))
  give (if set then 2 ^ i else 0)

-- a long magnitude, bit by bit
unfoldable pub long_bits : List ℕ → Reader ℕ
long_bits probabilities = do
  b0 ← bit probabilities 0
  b1 ← bit probabilities 1
  b2 ← bit probabilities 2
  b9 ← bit probabilities 9
  b8 ← bit probabilities 8
  b7 ← bit probabilities 7
  b6 ← bit probabilities 6
  b5 ← bit probabilities 5
  b4 ← bit probabilities 4
  b3 ← when (nat_lt 15 (b0 + b1 + b2 + b9 + b8 + b7 + b6 + b5 + b4)) (bit probabilities 3) 8
  give (b0 + b1 + b2 + b9 + b8 + b7 + b6 + b5 + b4 + b3)

-- a short magnitude
abbrev pub short_size : List ℕ → Reader ℕ
short_size probabilities = walk_from 0 SHORT_VECTOR_TREE (slice_range probabilities 2 9) 0

-- the vector mode of a part
abbrev pub part_mode : Vector → Vector → Reader PartMode
part_mode l a = walk_from part_is.Left PART_TREE (slice_index_or PART_PROBABILITIES (split_context l a) []) 0

-- how a macroblock is divided into parts
abbrev pub split_kind : Reader SplitKind
split_kind = walk_from kind_is.Sixteenths SPLIT_TREE SPLIT_PROBABILITIES 0

-- the motion, by the vector mode
abbrev pub motion_of_mode : List (List ℕ) → Grid MacroblockMotion → Place → Candidates → VectorMode → Reader Motion
motion_of_mode probabilities g p c mode = do
  vectors ← vectors_by probabilities g p c mode
  give (record { mode = mode; vectors = vectors })
