-- Private to the crate: the sums that a search uses.
use Rattle.std.specs.Prelude.{◌≡◌, ℕ, ◌+◌, ◌*◌, ◌≤◌, List, length}
use Rattle.vp_search.specs.declared.window.TheConstants.{WINDOW_WIDTH}
use Rattle.vp_search.specs.declared.summed.SquareSums.{SquareSums}
use Rattle.vp_search.specs.Bounds.{block_sums, IsSummed}

-- the sums of the squares of a block, and of the pixels of a window
abbrev pub AreSumsOf : List ℕ → List ℕ → ℕ → SquareSums → Type 0
AreSumsOf block pixels range sums = (sums.block ≡ block_sums block) × IsSummed pixels sums.places.now range
    × ((2 * range + 16) * WINDOW_WIDTH ≤ length sums.places.now)
