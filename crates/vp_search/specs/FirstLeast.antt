-- The first index at which a function has its least value.
use Rattle.std.specs.Prelude.{ℕ, ◌<◌, ◌≤◌}

-- best is the first index below n at which f is least
pub record IsFirstLeast (n : ℕ) (f : ℕ → ℕ) (best : ℕ) : Type 0 where
  pub within : best < n
  pub least : (k : ℕ) → k < n → f best ≤ f k
  pub first : (k : ℕ) → k < best → f best < f k
