-- The candidate vectors of a macroblock: best, nearest and near, with their weights, sign biases and clamping (RFC
-- 6386, chapter 16.3). Pinned by the law `near_of_three_neighbours`, the test `vectors_by_their_neighbours`, and
-- streams of other encoders in the gate.
use Rattle.std.specs.Prelude.{ℕ, ◌+◌, ◌-◌, ◌*◌, ◌&&◌, Bool, false, not, nat_lt, nat_le, List, [], ◌∷◌, ◌++◌, filter}
use Rattle.std.specs.Prelude.{sum_by, ℤ, pos, neg_ℤ, int_lt, if◌then◌else◌}
use Rattle.std.specs.Bool.{beq}
use Rattle.std.specs.Int.{from_bool}
use Rattle.std.specs.Ordering.{int_eq}
use Rattle.vp_head.specs.declared.fields.Reference.{Reference}
use Rattle.vp_head.specs.declared.fields.Reference.TheVariants as reference_is
use Rattle.vp_head.specs.declared.fields.SignBiases.{SignBiases}
use Rattle.vp_tables.specs.Modes.{is_split}
use Rattle.vp_head.specs.Reference.{is_intra}
use Rattle.vp_base.specs.declared.place.Place.{Place}
use Rattle.vp_base.specs.Place.{above, left, corner}
use Rattle.vp_base.specs.Grid.{Grid, look}
use Rattle.vp_motion.specs.declared.vector.Weighted.{Weighted}
use Rattle.vp_motion.specs.Vector.{Vector, MacroblockMotion, Candidates, zero_vector}
use Rattle.vp_motion.specs.Map.{intra, own}

-- ---- A neighbour's vector

-- the sign bias of a reference frame
abbrev pub bias_of : Reference → SignBiases → Bool
bias_of reference_is.Golden b = b.golden
bias_of reference_is.Alt b = b.alt
bias_of _ b = false

abbrev pub negated : Vector → Vector
negated v = record { row = neg_ℤ v.row; column = neg_ℤ v.column }

-- a neighbour's vector, negated if the sign biases of the two reference frames differ
unfoldable pub bias_corrected : Reference → SignBiases → MacroblockMotion → Vector
bias_corrected r b e = if beq (bias_of e.reference b) (bias_of r b) then own e else negated (own e)

-- a neighbour's vector and its weight; an intra neighbour doesn't count
unfoldable pub weighted_neighbour : Reference → SignBiases → ℕ → MacroblockMotion → List Weighted
weighted_neighbour r b weight e =
    if is_intra e.reference then []
    else record { vector = bias_corrected r b e; weight = weight } ∷ []

-- the neighbours above, to the left, and above left; outside the frame there is none
unfoldable pub neighbours : Grid MacroblockMotion → Place → Reference → SignBiases → List Weighted
neighbours g p r b = weighted_neighbour r b 2 (look intra g (above p))
    ++ (weighted_neighbour r b 2 (look intra g (left p)) ++ weighted_neighbour r b 1 (look intra g (corner p)))

-- ---- Vectors and their weights

unfoldable pub same : Vector → Vector → Bool
same u v = int_eq u.row v.row && int_eq u.column v.column

-- the weight of a vector: the sum of the weights of the neighbours that have it
unfoldable pub weight_of : Vector → List Weighted → ℕ
weight_of v ws = sum_by (λ w. if same w.vector v then w.weight else 0) ws

-- the neighbours that have another vector
unfoldable pub without : Vector → List Weighted → List Weighted
without v ws = filter (λ w. not (same w.vector v)) ws

-- the first neighbour's vector with its weight; the zero vector with weight 0 if there is no neighbour
unfoldable pub first_vector : List Weighted → Weighted
first_vector [] = record { vector = zero_vector; weight = 0 }
first_vector (w ∷ ws) = record { vector = w.vector; weight = weight_of w.vector (w ∷ ws) }

-- whether a neighbour has split vectors
unfoldable pub splits : MacroblockMotion → Bool
splits e = if is_intra e.reference then false else is_split e.mode

-- the weights of the neighbours with split vectors: 2 above, 2 to the left, 1 above left
unfoldable pub split_count : Grid MacroblockMotion → Place → ℕ
split_count g p = 2 * from_bool (splits (look intra g (above p))) + 2 * from_bool (splits (look intra g (left p)))
    + from_bool (splits (look intra g (corner p)))

-- ---- The candidates

abbrev pub clamped : ℤ → ℤ → ℤ → ℤ
clamped low high z = if int_lt z low then low else if int_lt high z then high else z

-- a vector, in quarter pixels, clamped so that the block at p lies at most one macroblock outside the frame
unfoldable pub clamped_vector : Grid MacroblockMotion → Place → Vector → Vector
clamped_vector g p v = record {
  row = clamped (neg_ℤ (pos (64 * (p.row + 1)))) (pos (64 * (g.rows - p.row))) v.row;
  column = clamped (neg_ℤ (pos (64 * (p.column + 1)))) (pos (64 * (g.columns - p.column))) v.column;
}

-- the candidates, given the heavier and the lighter of two vectors; best is the heavier one unless zero is heavier
abbrev pub from_two : (Vector → Vector) → ℕ → ℕ → Weighted → Weighted → Candidates
from_two clamp zeros splits nearest near = record {
  counts = zeros ∷ nearest.weight ∷ near.weight ∷ splits ∷ [];
  best = clamp (if nat_le zeros nearest.weight then nearest.vector else zero_vector);
  nearest = clamp nearest.vector;
  near = clamp near.vector;
}

-- The candidates of the macroblock at p with reference frame r. Nearest and near are the first two different vectors
-- of its neighbours that aren't zero, the heavier one first. (The standard's own program compares the third vector with
-- the second, and then with the first, which is the same.)
unfoldable pub candidates : Grid MacroblockMotion → Place → Reference → SignBiases → Candidates
candidates g p r b =
    let ws = neighbours g p r b in
    let moving = without zero_vector ws in
    let first = first_vector moving in
    let second = first_vector (without first.vector moving) in
    let by = from_two (clamped_vector g p) (weight_of zero_vector ws) (split_count g p) in
    if nat_lt first.weight second.weight then by second first else by first second
