-- Private to the crate: the count that the code keeps of a macroblock's neighbours. It compares each vector with the
-- entry before it, as the standard's own program does.
use Rattle.std.specs.Prelude.{◌≡◌, ◌+◌, ◌<◌, ◌&&◌, ℕ, List, [], ◌∷◌, length, slice_index_or, Option, Some, None, nat_le}
use Rattle.std.specs.Prelude.{nat_lt, if◌then◌else◌}
use Rattle.vp_motion.specs.declared.vector.NeighbourCount.{NeighbourCount}
use Rattle.vp_motion.specs.declared.vector.Weighted.{Weighted}
use Rattle.vp_motion.specs.Vector.{Vector, Candidates, zero_vector}
use Rattle.vp_motion.specs.Near.{from_two, same, weight_of, without}

-- ---- Entries

-- the sum of the weights of zero vectors
abbrev pub still_weight : List Weighted → ℕ
still_weight ws = weight_of zero_vector ws

-- the nonzero vectors
abbrev pub moving : List Weighted → List Weighted
moving ws = without zero_vector ws

-- consecutive equal vectors become one entry, and their weights are added
unfoldable pub onto : Weighted → List Weighted → List Weighted
onto w [] = w ∷ []
onto w (e ∷ es) = if same w.vector e.vector then record { vector = w.vector; weight = w.weight + e.weight } ∷ es else w
    ∷ (e ∷ es)

-- the entries of a list of vectors
unfoldable pub runs : List Weighted → List Weighted
runs [] = []
runs (w ∷ ws) = onto w (runs ws)

-- an entry of the zero vector with weight 0
abbrev pub nobody : Weighted
nobody = record { vector = zero_vector; weight = 0 }

-- entry k; past the end the zero vector with weight 0
abbrev pub weighted_at : List Weighted → ℕ → Weighted
weighted_at es k = slice_index_or es k nobody

-- the first entry; its weight grows by 1 if there are three entries and the third equals it
unfoldable pub first_candidate : List Weighted → Weighted
first_candidate es =
    if nat_lt 2 (length es) && same (weighted_at es 2).vector (weighted_at es 0).vector
    then record { vector = (weighted_at es 0).vector; weight = (weighted_at es 0).weight + 1 }
    else weighted_at es 0

-- the candidates, from the zero weight, the split weight and the entries
unfoldable pub from_entries : (Vector → Vector) → ℕ → ℕ → List Weighted → Candidates
from_entries clamp zeros splits es =
    if nat_lt (first_candidate es).weight (weighted_at es 1).weight
    then from_two clamp zeros splits (weighted_at es 1) (first_candidate es)
    else from_two clamp zeros splits (first_candidate es) (weighted_at es 1)

-- ---- The count

-- the candidates that are counted, with these weights of split neighbours
abbrev pub candidates_by : (Vector → Vector) → ℕ → NeighbourCount → Candidates
candidates_by clamp splits n = from_two clamp n.zeros splits n.nearest n.near

-- the best candidate, before it is clamped
abbrev pub best_of : NeighbourCount → Vector
best_of n = if nat_le n.zeros n.nearest.weight then n.nearest.vector else zero_vector

-- the vector of a neighbour with its weight, if the neighbour has one
abbrev pub weighted_vector : ℕ → Option Vector → List Weighted
weighted_vector weight None = []
weighted_vector weight (Some v) = record { vector = v; weight = weight } ∷ []

-- n counts zero vectors of this weight, and these entries
abbrev pub Counts : NeighbourCount → ℕ → List Weighted → Type 0
Counts n zeros es = (clamp : Vector → Vector) (splits : ℕ)
    → candidates_by clamp splits n ≡ from_entries clamp zeros splits es

-- the weights are at most 5
abbrev pub AreLight : NeighbourCount → Type 0
AreLight n = (n.zeros < 6) × ((n.nearest.weight < 6) × (n.near.weight < 6))

-- the weights by which the vector mode is read
abbrev pub weights_of : ℕ → NeighbourCount → List ℕ
weights_of splits n = n.zeros ∷ n.nearest.weight ∷ n.near.weight ∷ splits ∷ []
