-- Private to the crate: the walk of the tree of vector modes, unrolled pair by pair.
use Rattle.std.specs.Prelude.{ℕ, List, [], slice_index, slice_index_or, if◌then◌else◌}
use Rattle.vp_bool.specs.Bools.{read}
use Rattle.vp_bool.specs.Reader.{Reader, ◌>>=◌, give}
use Rattle.vp_tables.specs.declared.modes.VectorMode.{VectorMode}
use Rattle.vp_tables.specs.declared.modes.VectorMode.TheVariants as vector_is
use Rattle.vp_tables.specs.declared.mode_probabilities.TheConstants.{VECTOR_MODE_PROBABILITIES}

-- probability i of the vector mode
abbrev pub mode_probability : List ℕ → ℕ → ℕ
mode_probability counts i = slice_index (slice_index_or VECTOR_MODE_PROBABILITIES (slice_index counts i) []) i

-- the walk from the pair at index 6
unfoldable pub not_near : List ℕ → Reader VectorMode
not_near counts = do
  b ← read (mode_probability counts 3)
  give (if b then vector_is.Split else vector_is.New)

-- the walk from the pair at index 4
unfoldable pub not_nearest : List ℕ → Reader VectorMode
not_nearest counts = do
  b ← read (mode_probability counts 2)
  if b then not_near counts else give vector_is.Near

-- the walk from the pair at index 2
unfoldable pub not_zero : List ℕ → Reader VectorMode
not_zero counts = do
  b ← read (mode_probability counts 1)
  if b then not_nearest counts else give vector_is.Nearest

-- the walk from the root
unfoldable pub any_mode : List ℕ → Reader VectorMode
any_mode counts = do
  b ← read (mode_probability counts 0)
  if b then not_zero counts else give vector_is.Zero
