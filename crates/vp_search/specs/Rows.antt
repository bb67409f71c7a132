-- Private to the crate: rows of pixels in lanes.
use Rattle.std.specs.Prelude.{◌≡◌, ℕ, ◌<◌, slice_index}
use Rattle.vp_search.specs.declared.kernel.FourRows.{FourRows}

-- four rows of a block; f r c is the pixel at row r and column c
pub record HasRows (f : ℕ → ℕ → ℕ) (rows : FourRows) : Type 0 where
  pub first : (c : ℕ) → c < 16 → slice_index rows.first c ≡ f 0 c
  pub second : (c : ℕ) → c < 16 → slice_index rows.second c ≡ f 1 c
  pub third : (c : ℕ) → c < 16 → slice_index rows.third c ≡ f 2 c
  pub fourth : (c : ℕ) → c < 16 → slice_index rows.fourth c ≡ f 3 c
