-- The best vector of a search: the least cost; ties are broken by length, row and column. The encoder's own choice.
-- Pinned by tests on moved blocks and flat planes.
use Rattle.std.specs.Prelude.{◌≡◌, ℕ, ◌≤◌, ◌≤ℤ◌}
use Rattle.vp_search.specs.declared.vector.WholeVector.{WholeVector}
use Rattle.vp_search.specs.Vectors.{vector_length, IsNear}

-- a vector v of cost a precedes or equals a vector w of cost b: by cost, then length, then row, then column
pub record IsNoWorse (a : ℕ) (v : WholeVector) (b : ℕ) (w : WholeVector) : Type 0 where
  pub by_cost : a ≤ b
  pub by_size : a ≡ b → vector_length v ≤ vector_length w
  pub by_row : a ≡ b → vector_length v ≡ vector_length w → v.row ≤ℤ w.row
  pub by_column : a ≡ b → vector_length v ≡ vector_length w → v.row ≡ w.row → v.column ≤ℤ w.column

-- best is within range, and precedes or equals every vector within range
pub record IsLeast (range : ℕ) (cost : WholeVector → ℕ) (best : WholeVector) : Type 0 where
  pub near : IsNear range best
  pub least : (v : WholeVector) → IsNear range v → IsNoWorse (cost best) best (cost v) v

-- A search has only one best vector.
abbrev pub LeastIsOne : Type 0
LeastIsOne = (range : ℕ) (cost : WholeVector → ℕ) (v w : WholeVector) → IsLeast range cost v → IsLeast range cost w
    → v ≡ w
