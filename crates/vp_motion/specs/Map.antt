-- The motion of a frame's macroblocks, and the vectors of each subblock and its neighbours (RFC 6386, chapters 5 and
-- 16.3). Pinned by the test `vectors_by_their_neighbours`.
use Rattle.std.specs.Prelude.{ℕ, List, replicate, slice_index_or, if◌then◌else◌}
use Rattle.vp_base.specs.declared.place.Place.{Place}
use Rattle.vp_base.specs.Place.{above, left}
use Rattle.vp_base.specs.Grid.{Grid, at}
use Rattle.vp_base.specs.Near.{block_place, seen_from, value}
use Rattle.vp_head.specs.Reference.{is_intra}
use Rattle.vp_head.specs.declared.fields.Reference.TheVariants as reference_is
use Rattle.vp_tables.specs.declared.modes.VectorMode.TheVariants as vector_is
use Rattle.vp_motion.specs.Vector.{Vector, MacroblockMotion, IsWithin, zero_vector, last_of}

-- the motion of an intra macroblock: zero vectors
unfoldable pub intra : MacroblockMotion
intra = record { reference = reference_is.Intra; mode = vector_is.Zero; vectors = replicate 16 zero_vector }

-- the macroblock's own vector, which its neighbours use as a candidate
unfoldable pub own : MacroblockMotion → Vector
own e = last_of e.vectors

-- the components of each macroblock's own vector are from -n to n
abbrev pub AreWithin : ℕ → Grid MacroblockMotion → Type 0
AreWithin n g = (p : Place) → IsWithin n (own (at intra g p))

-- the vector of block b; zero in an intra macroblock
unfoldable pub block_vector : MacroblockMotion → ℕ → Vector
block_vector e b = if is_intra e.reference then zero_vector else slice_index_or e.vectors b zero_vector

-- The vectors above block b of the macroblock at p, and to its left. found contains the vectors of its blocks before
-- b. Outside the frame the vector is zero.
unfoldable pub above_block : Grid MacroblockMotion → Place → List Vector → ℕ → Vector
above_block g p found b = value block_vector zero_vector g found (seen_from 4 p (above (block_place 4 p b)))

unfoldable pub left_block : Grid MacroblockMotion → Place → List Vector → ℕ → Vector
left_block g p found b = value block_vector zero_vector g found (seen_from 4 p (left (block_place 4 p b)))
