-- Which motion of a macroblock can be written, given its candidates (RFC 6386, chapters 16.3 and 17.1). Pinned by the
-- tests `write_vector_examples` and `motions_read_back`.
use Rattle.std.specs.Prelude.{◌≡◌, ℕ, ◌/◌, ◌%◌, ◌^◌, ◌==◌, ◌-ℤ◌, if◌then◌else◌}
use Rattle.vp_tables.specs.declared.modes.VectorMode.{VectorMode}
use Rattle.vp_tables.specs.declared.modes.VectorMode.TheVariants as vector_is
use Rattle.vp_motion.specs.Vector.{Vector, Motion, Candidates, IsWithin, last_of, zero_vector}

-- the value of bit i of n
abbrev pub bit_of : ℕ → ℕ → ℕ
bit_of n i = if n / 2 ^ i % 2 == 1 then 2 ^ i else 0

-- the difference of two vectors
abbrev pub difference_of : Vector → Vector → Vector
difference_of v u = record { row = v.row -ℤ u.row; column = v.column -ℤ u.column }

-- The mode codes this vector for the whole macroblock: new codes vectors whose components differ from best by at most
-- 1,023 quarter pixels, split codes none.
abbrev pub GivesVector : Candidates → VectorMode → Vector → Type 0
GivesVector c vector_is.Zero v = v ≡ zero_vector
GivesVector c vector_is.Nearest v = v ≡ c.nearest
GivesVector c vector_is.Near v = v ≡ c.near
GivesVector c vector_is.New v = IsWithin 1023 (difference_of v c.best)
GivesVector c vector_is.Split v = ⊥

-- A motion can be written if its mode codes its vector; so split is never written.
abbrev pub CanBeWritten : Candidates → Motion → Type 0
CanBeWritten c m = GivesVector c m.mode (last_of m.vectors)
