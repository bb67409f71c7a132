-- Private to the crate: six filter weights in vectors of two alternating weights.
use Rattle.std.specs.Prelude.{◌≡◌, ◌+◌, ◌*◌, ◌<◌, ℕ, zero, suc, ℤ, List, [], ◌∷◌, slice_index}
use Rattle.vp_lanes.specs.Lane.{lane}

-- sixteen lanes with two alternating weights
abbrev pub AreByTurns : List ℤ → Type 0
AreByTurns lanes = (j : ℕ) → j < 8 → (lane lanes (2 * j) ≡ lane lanes 0) × (lane lanes (2 * j + 1) ≡ lane lanes 1)

-- the six weights of three such vectors, in pairs three apart
abbrev pub first_weights : List ℤ → List ℤ → List ℤ → List ℤ
first_weights a b c = lane a 0 ∷ lane b 0 ∷ lane c 0 ∷ lane a 1 ∷ lane b 1 ∷ lane c 1 ∷ []

-- vector k of three
abbrev pub one_of_three : List ℕ → List ℕ → List ℕ → ℕ → List ℕ
one_of_three a b c zero = a
one_of_three a b c (suc zero) = b
one_of_three a b c (suc (suc _)) = c

-- three vectors of indices are lanes of a vector of sixteen
abbrev pub AreLanes : List ℕ → List ℕ → List ℕ → Type 0
AreLanes first second third =
    (k : ℕ) → k < 16 → (slice_index first k < 16) × (slice_index second k < 16) × (slice_index third k < 16)
