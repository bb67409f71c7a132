-- Private to the crate: blocks in lanes: four vectors of four numbers are the rows of a block.
use Rattle.std.specs.Prelude.{ℕ, ℤ, List, [], ◌∷◌, ◌<◌, ◌≤◌, unsigned_abs}
use Rattle.vp_lanes.specs.Lane.{lane}

-- lane j of each of four vectors
abbrev pub column_of : List ℤ → List ℤ → List ℤ → List ℤ → ℕ → List ℤ
column_of a b c d j = lane a j ∷ lane b j ∷ lane c j ∷ lane d j ∷ []

-- the block with these four rows
abbrev pub block_in : List ℤ → List ℤ → List ℤ → List ℤ → List ℤ
block_in a b c d =
    lane a 0 ∷ lane a 1 ∷ lane a 2 ∷ lane a 3 ∷ lane b 0 ∷ lane b 1 ∷ lane b 2 ∷ lane b 3 ∷
    lane c 0 ∷ lane c 1 ∷ lane c 2 ∷ lane c 3 ∷ lane d 0 ∷ lane d 1 ∷ lane d 2 ∷ lane d 3 ∷ []

-- each of the four lanes is from -b to b
abbrev pub LanesWithin : ℕ → List ℤ → Type 0
LanesWithin b xs = (j : ℕ) → j < 4 → unsigned_abs (lane xs j) ≤ b
