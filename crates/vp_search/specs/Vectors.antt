-- Motion vectors in whole and in quarter pixels, and their lengths (RFC 6386, chapter 5).
use Rattle.std.specs.Prelude.{ℕ, pos, ◌*ℤ◌, ◌+◌, ◌≤◌, unsigned_abs}
use Rattle.vp_search.specs.declared.vector.WholeVector.{WholeVector}
use Rattle.vp_search.specs.declared.vector.QuarterVector.{QuarterVector}

-- whole pixels as quarter pixels
abbrev pub quarters : WholeVector → QuarterVector
quarters v = record { row = pos 4 *ℤ v.row; column = pos 4 *ℤ v.column }

-- the length of a vector: the sum of the magnitudes of row and column
abbrev pub vector_length : WholeVector → ℕ
vector_length v = unsigned_abs v.row + unsigned_abs v.column

-- row and column are from -range to range
abbrev pub IsNear : ℕ → WholeVector → Type 0
IsNear range v = (unsigned_abs v.row ≤ range) × (unsigned_abs v.column ≤ range)
