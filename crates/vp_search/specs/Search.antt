-- Private to the crate: what a search of a window finds.
use Rattle.std.specs.Prelude.{◌≡◌, ℕ, ◌+◌, ◌*◌, ◌<◌, ◌≤◌, List, slice_index}
use Rattle.vp_search.specs.declared.vector.WholeVector.{WholeVector}
use Rattle.vp_search.specs.declared.vector.Found.{Found}
use Rattle.vp_search.specs.declared.window.TheConstants.{WINDOW_WIDTH}
use Rattle.vp_search.specs.declared.search_window.SearchWindow.{SearchWindow}
use Rattle.vp_search.specs.Vectors.{IsNear}
use Rattle.vp_search.specs.Least.{IsLeast, IsNoWorse}
use Rattle.vp_search.specs.Differences.{sum_of_differences, strided_block}
use Rattle.vp_search.specs.Window.{vector_at, window_cost}

-- the cost of a vector in a window
abbrev pub cost_in : SearchWindow → WholeVector → ℕ
cost_in w = window_cost w.block.now w.pixels.now w.range

-- the sum of differences of the first four rows, for the block that begins at row i and column j
abbrev pub first_rows_in : SearchWindow → ℕ → ℕ → ℕ
first_rows_in w i j = sum_of_differences 4 16 (strided_block w.block.now 0 16)
    (strided_block w.pixels.now (i * WINDOW_WIDTH + j) WINDOW_WIDTH)

-- row i and column j are where the block of a vector within range begins
abbrev pub IsInRange : SearchWindow → ℕ → ℕ → Type 0
IsInRange w i j = (i ≤ 2 * w.range) × (j ≤ 2 * w.range)

-- a vector within range, with its cost if that is below the limit
abbrev pub IsFound : SearchWindow → Found → Type 0
IsFound w found = IsNear w.range found.vector × (found.cost < w.limit → found.cost ≡ cost_in w found.vector)

-- what is found is no worse than the vector at row i and column j
abbrev pub IsNoWorseAt : SearchWindow → Found → ℕ → ℕ → Type 0
IsNoWorseAt w found i j = IsNoWorse found.cost found.vector (cost_in w (vector_at w.range i j)) (vector_at w.range i j)

-- new is no worse than old, nor than the vectors of row i within range from column `from` to before column `to`; it is
-- found if old is
pub record IsBestInRow (w : SearchWindow) (i from to : ℕ) (old new : Found) : Type 0 where
  pub found : IsFound w old → IsFound w new
  pub better : IsNoWorse new.cost new.vector old.cost old.vector
  pub seen : (j : ℕ) → from ≤ j → j < to → j ≤ 2 * w.range → IsNoWorseAt w new i j

-- the vectors of row i within range from column `from` to before column `to` cost more than a limit
abbrev pub AreAbove : SearchWindow → ℕ → ℕ → ℕ → ℕ → Type 0
AreAbove w limit i from to = (j : ℕ) → from ≤ j → j < to → j ≤ 2 * w.range → limit < cost_in w (vector_at w.range i j)

-- the best vector within range if its cost is below the limit; none costs less than what is found
pub record IsBestBelow (w : SearchWindow) (found : Found) : Type 0 where
  pub known : found.cost < w.limit → found.cost ≡ cost_in w found.vector
  pub least : found.cost < w.limit → IsLeast w.range (cost_in w) found.vector
  pub over : (v : WholeVector) → IsNear w.range v → found.cost ≤ cost_in w v

-- eight bounds of the costs of the vectors from a row and column on
abbrev pub AreBounds : SearchWindow → ℕ → ℕ → List ℕ → Type 0
AreBounds w i j bounds = (t : ℕ) → t < 8 → j + t ≤ 2 * w.range
    → slice_index bounds t ≤ cost_in w (vector_at w.range i (j + t))
