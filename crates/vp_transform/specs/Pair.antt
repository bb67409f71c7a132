-- Two blocks by turns in four rows of eight numbers, and side by side: a row of one block, followed by the same row of
-- the other. Pinned by the test `pair_example`.
use Rattle.std.specs.Prelude.{ℕ, ℤ, List, [], ◌∷◌}
use Rattle.vp_lanes.specs.Lane.{lane}
use Rattle.vp_transform.specs.Transform.{element_at, block_from}

-- the block in the even lanes
abbrev pub even_block : List ℤ → List ℤ → List ℤ → List ℤ → List ℤ
even_block a b c d =
    lane a 0 ∷ lane a 2 ∷ lane a 4 ∷ lane a 6 ∷ lane b 0 ∷ lane b 2 ∷ lane b 4 ∷ lane b 6 ∷
    lane c 0 ∷ lane c 2 ∷ lane c 4 ∷ lane c 6 ∷ lane d 0 ∷ lane d 2 ∷ lane d 4 ∷ lane d 6 ∷ []

-- the block in the odd lanes
abbrev pub odd_block : List ℤ → List ℤ → List ℤ → List ℤ → List ℤ
odd_block a b c d =
    lane a 1 ∷ lane a 3 ∷ lane a 5 ∷ lane a 7 ∷ lane b 1 ∷ lane b 3 ∷ lane b 5 ∷ lane b 7 ∷
    lane c 1 ∷ lane c 3 ∷ lane c 5 ∷ lane c 7 ∷ lane d 1 ∷ lane d 3 ∷ lane d 5 ∷ lane d 7 ∷ []

-- row r of the first block, followed by row r of the second
abbrev pub row_in : List ℤ → List ℤ → ℕ → List ℤ
row_in a b r = element_at a r 0 ∷ element_at a r 1 ∷ element_at a r 2 ∷ element_at a r 3 ∷ element_at b r 0
    ∷ element_at b r 1 ∷ element_at b r 2 ∷ element_at b r 3 ∷ []

-- ---- Private to the crate

-- the block transposed
abbrev pub transposed : List ℤ → List ℤ
transposed block = block_from (λ r c. element_at block c r)
