-- How long vectors are: those that are read, and those near a macroblock.
use Rattle.std.proofs.Common.{◌≡◌, ℕ, zero, suc, ◌+◌, ◌*◌, ◌<◌, ◌≤◌, ◌^◌, Bool, true, false, cond, not, T, List, [], ◌∷◌, ◌++◌, refl, sym, subst, arith, leb, nat_lt, ℤ, pos, neg_ℤ, ◌≤ℤ◌, ◌<ℤ◌, ◌-ℤ◌, ◌+ℤ◌, Option, Some, None}
use Rattle.std.specs.Prelude.{replicate, slice_get, slice_index, slice_index_or, slice_set}
use Rattle.std.specs.Bool.{beq}
use Rattle.std.specs.Option.{unwrap_or}
use Rattle.std.specs.Int.Signed.{lt_z, lt_z_yes}
use Rattle.std.specs.List.{slice_range}
use Rattle.std.proofs.lemmas.Bool.{ltb-true}
use Rattle.std.proofs.lemmas.Int.{ints}
use Rattle.vp_base.specs.declared.place.Place.{Place}
use Rattle.vp_base.specs.Place.{above, left, corner}
use Rattle.vp_base.specs.Grid as grid
use Rattle.vp_base.specs.Grid.{Grid, all, changed, look, repeated, with_entry}
use Rattle.vp_bool.specs.Bools.{State, read}
use Rattle.vp_bool.specs.Reader.{bind, when}
use Rattle.vp_tree.proofs.Paths.{walk_leads, leads_passes}
use Rattle.vp_head.specs.declared.fields.Header.{Header}
use Rattle.vp_head.specs.declared.fields.Reference.{Reference}
use Rattle.vp_head.specs.declared.fields.SignBiases.{SignBiases}
use Rattle.vp_head.specs.Reference.{is_intra}
use Rattle.vp_tables.specs.declared.modes.VectorMode.{VectorMode}
use Rattle.vp_tables.specs.declared.modes.VectorMode.TheVariants as vector_is
use Rattle.vp_tables.specs.declared.trees.TheConstants.{SHORT_VECTOR_TREE}
use Rattle.vp_tables.specs.Modes.{is_split}
use Rattle.vp_motion.specs.declared.vector.Weighted.{Weighted}
use Rattle.vp_motion.specs.Vector.{Vector, Candidates, MacroblockMotion, IsWithin, last_of, zero_vector}
use Rattle.vp_motion.specs.Map.{AreWithin, intra, own}
use Rattle.vp_motion.specs.Motion.{component, motion_at, motion_by, new_vector, component_magnitude, sum_of, vector, vectors_by, long_size}
use Rattle.vp_motion.specs.Pieces.{bit, long_bits, short_size}
use Rattle.vp_motion.proofs.LongSizes.{long_size_bits}
use Rattle.vp_motion.specs.Near.{bias_of, candidates, clamped, first_vector, weighted_neighbour, from_two, negated, neighbours, same, without, bias_corrected, clamped_vector}
use Rattle.vp_motion.specs.Spelled.{CanBeWritten, GivesVector, difference_of}

-- ---- What is read

of_bit : (b : Bool) (n : ℕ) → cond b n 0 ≤ n
of_bit true n = omega arith
of_bit false n = omega arith

bit-small : (ps : List ℕ) (i : ℕ) (s : State) → (bit ps i s).0 ≤ 2 ^ i
unfolding bit bind
bit-small ps i s = of_bit (read (slice_index ps (9 + i)) s).0 (2 ^ i)

bit_3-small : (long : Bool) (ps : List ℕ) (s : State) → (when long (bit ps 3) 8 s).0 ≤ 8
bit_3-small true ps s = bit-small ps 3 s
bit_3-small false ps s = omega arith

ten : (b0 b1 b2 b9 b8 b7 b6 b5 b4 b3 : ℕ) → b0 ≤ 1 → b1 ≤ 2 → b2 ≤ 4 → b9 ≤ 512 → b8 ≤ 256 → b7 ≤ 128 → b6 ≤ 64 → b5 ≤ 32 → b4 ≤ 16 → b3 ≤ 8
    → b0 + b1 + b2 + b9 + b8 + b7 + b6 + b5 + b4 + b3 ≤ 1023
ten b0 b1 b2 b9 b8 b7 b6 b5 b4 b3 h0 h1 h2 h9 h8 h7 h6 h5 h4 h3 = omega arith

long_bits-small : (ps : List ℕ) (s : State) → (long_bits ps s).0 ≤ 1023
unfolding long_bits bind
long_bits-small ps s =
    ten _ _ _ _ _ _ _ _ _ _ (bit-small ps 0 _) (bit-small ps 1 _) (bit-small ps 2 _) (bit-small ps 9 _) (bit-small ps 8 _) (bit-small ps 7 _) (bit-small ps 6 _) (bit-small ps 5 _) (bit-small ps 4 _)
    (bit_3-small _ ps _)

short_size-small : (ps : List ℕ) (s : State) → (short_size ps s).0 < 8
short_size-small ps s =
    let qs = slice_range ps 2 9 in
    ltb-true _ 8 (leads_passes SHORT_VECTOR_TREE qs 0 s _ _ (walk_leads 0 SHORT_VECTOR_TREE qs 0 s refl (omega arith)) (λ n. nat_lt n 8) refl)

size_by : (long : Bool) (ps : List ℕ) (s : State) → (cond long (long_size ps) (short_size ps) s).0 ≤ 1023
size_by true ps s = rw (long_size_bits ps s) (long_bits-small ps s)
size_by false ps s = let h = short_size-small ps s in omega arith

size-small : (ps : List ℕ) (s : State) → (component_magnitude ps s).0 ≤ 1023
unfolding component_magnitude bind
size-small ps s = size_by (read (slice_index ps 0) s).0 ps (read (slice_index ps 0) s).1

-- a part of a vector
record IsPart (z : ℤ) : Type 0 where
  low : neg_ℤ (pos 1023) ≤ℤ z
  high : z ≤ℤ pos 1023

signed_part : (minus : Bool) (n : ℕ) → n ≤ 1023 → IsPart (cond minus (neg_ℤ (pos n)) (pos n))
signed_part true n h = record { low = omega (arith, ints); high = omega (arith, ints) }
signed_part false n h = record { low = omega (arith, ints); high = omega (arith, ints) }

component-small : (ps : List ℕ) (s : State) → IsPart (component ps s).0
unfolding component bind
component-small ps s = signed_part _ (component_magnitude ps s).0 (size-small ps s)

pub vector-small : (ps : List (List ℕ)) (s : State) → IsWithin 1023 (vector ps s).0
unfolding vector bind
vector-small ps s =
    let row = component-small (slice_index_or ps 0 []) s in
    let column = component-small (slice_index_or ps 1 []) (component (slice_index_or ps 0 []) s).1 in
    record { low_row = row.low; high_row = row.high; low_column = column.low; high_column = column.high }

taken_back : (a b : ℤ) → (a +ℤ b) -ℤ a ≡ b
taken_back a b = omega (arith, ints)

difference_of-sum : (u v : Vector) → difference_of (sum_of u v) u ≡ v
difference_of-sum u v = λ i. record { row = taken_back u.row v.row i; column = taken_back u.column v.column i }

given-spelled : (ps : List (List ℕ)) (g : Grid MacroblockMotion) (p : Place) (c : Candidates) (mode : VectorMode) (s : State) → is_split mode ≡ false
    → GivesVector c mode (last_of (vectors_by ps g p c mode s).0)
unfolding new_vector bind
given-spelled ps g p c vector_is.Zero s h = refl
given-spelled ps g p c vector_is.Nearest s h = refl
given-spelled ps g p c vector_is.Near s h = refl
given-spelled ps g p c vector_is.New s h = subst (IsWithin 1023) (sym (difference_of-sum c.best (vector ps s).0)) (vector-small ps s)
given-spelled ps g p c vector_is.Split s h = absurd cc

pub motion-spelled : (h : Header) (g : Grid MacroblockMotion) (p : Place) (r : Reference) (s : State) → is_split (motion_at h g p r s).0.mode ≡ false
    → CanBeWritten (candidates g p r h.biases) (motion_at h g p r s).0
unfolding motion_at motion_by bind
motion-spelled h g p r s whole = given-spelled h.probabilities.vectors g p (candidates g p r h.biases) _ _ whole

-- ---- What is near

abbrev AreShort : ℕ → List Weighted → Type 0
AreShort n [] = Unit {0}
AreShort n (w ∷ ws) = IsWithin n w.vector × AreShort n ws

still-short : (n : ℕ) → IsWithin n zero_vector
still-short n = record { low_row = omega (arith, ints); high_row = omega (arith, ints); low_column = omega (arith, ints); high_column = omega (arith, ints) }

negated-short : (n : ℕ) (v : Vector) → IsWithin n v → IsWithin n (negated v)
negated-short n v h = record { low_row = omega (arith, ints, h); high_row = omega (arith, ints, h); low_column = omega (arith, ints, h); high_column = omega (arith, ints, h) }

turned-short : (same : Bool) (n : ℕ) (v : Vector) → IsWithin n v → IsWithin n (cond same v (negated v))
turned-short true n v h = h
turned-short false n v h = negated-short n v h

counted_by : (intra : Bool) (n : ℕ) (w : Weighted) → IsWithin n w.vector → AreShort n (cond intra [] (w ∷ []))
counted_by true n w h = tt
counted_by false n w h = (h, tt)

counted-short : (n : ℕ) (r : Reference) (b : SignBiases) (weight : ℕ) (e : MacroblockMotion) → IsWithin n (own e) → AreShort n (weighted_neighbour r b weight e)
unfolding weighted_neighbour bias_corrected
counted-short n r b weight e h = counted_by (is_intra e.reference) n _ (turned-short (beq (bias_of e.reference b) (bias_of r b)) n (own e) h)

append-short : (n : ℕ) (ws vs : List Weighted) → AreShort n ws → AreShort n vs → AreShort n (ws ++ vs)
append-short n [] vs h k = k
append-short n (w ∷ ws) vs h k = (h.0, append-short n ws vs h.1 k)

without_by : (stays : Bool) (n : ℕ) (w : Weighted) (ws : List Weighted) → IsWithin n w.vector → AreShort n ws → AreShort n (cond stays (w ∷ ws) ws)
without_by true n w ws h k = (h, k)
without_by false n w ws h k = k

without-short : (n : ℕ) (v : Vector) (ws : List Weighted) → AreShort n ws → AreShort n (without v ws)
unfolding without
without-short n v [] h = tt
without-short n v (w ∷ ws) h = without_by (not (same w.vector v)) n w _ h.0 (without-short n v ws h.1)

first-short : (n : ℕ) (ws : List Weighted) → AreShort n ws → IsWithin n (first_vector ws).vector
unfolding first_vector
first-short n [] h = still-short n
first-short n (w ∷ ws) h = h.0

-- ---- Clamping lengthens none, since it is done between a number below 0 and one above it.

record IsBetween (n : ℕ) (z : ℤ) : Type 0 where
  low : neg_ℤ (pos n) ≤ℤ z
  high : z ≤ℤ pos n

clamped_by : (below over : Bool) (n a b : ℕ) (z : ℤ) → (T below → z <ℤ neg_ℤ (pos a)) → (T over → pos b <ℤ z) → IsBetween n z → IsBetween n (cond below (neg_ℤ (pos a)) (cond over (pos b) z))
clamped_by true over n a b z f g h = let k : z <ℤ neg_ℤ (pos a) = f tt in record { low = omega (arith, ints, h, k); high = omega (arith, ints, h, k) }
clamped_by false true n a b z f g h = let k : pos b <ℤ z = g tt in record { low = omega (arith, ints, h, k); high = omega (arith, ints, h, k) }
clamped_by false false n a b z f g h = h

clamped-between : (n a b : ℕ) (z : ℤ) → IsBetween n z → IsBetween n (clamped (neg_ℤ (pos a)) (pos b) z)
clamped-between n a b z h = clamped_by (lt_z z (neg_ℤ (pos a))) (lt_z (pos b) z) n a b z (λ t. lt_z_yes t) (λ t. lt_z_yes t) h

within-short : (n : ℕ) (g : Grid MacroblockMotion) (p : Place) (v : Vector) → IsWithin n v → IsWithin n (clamped_vector g p v)
unfolding clamped_vector
within-short n g p v h =
    let row = clamped-between n _ _ v.row (record { low = h.low_row; high = h.high_row }) in
    let column = clamped-between n _ _ v.column (record { low = h.low_column; high = h.high_column }) in
    record { low_row = row.low; high_row = row.high; low_column = column.low; high_column = column.high }

pub record AreCandidatesWithin (n : ℕ) (c : Candidates) : Type 0 where
  pub best : IsWithin n c.best
  pub nearest : IsWithin n c.nearest
  pub near : IsWithin n c.near

best_by : (moves : Bool) (n : ℕ) (v : Vector) → IsWithin n v → IsWithin n (cond moves v zero_vector)
best_by true n v h = h
best_by false n v h = still-short n

two-short : (n : ℕ) (g : Grid MacroblockMotion) (p : Place) (zeros splits : ℕ) (nearest near : Weighted) → IsWithin n nearest.vector → IsWithin n near.vector
    → AreCandidatesWithin n (from_two (clamped_vector g p) zeros splits nearest near)
two-short n g p zeros splits nearest near h k = record {
  best = within-short n g p _ (best_by (leb zeros nearest.weight) n nearest.vector h);
  nearest = within-short n g p _ h;
  near = within-short n g p _ k;
}

swapped_by : (swaps : Bool) (n : ℕ) (a b : Candidates) → AreCandidatesWithin n a → AreCandidatesWithin n b → AreCandidatesWithin n (cond swaps a b)
swapped_by true n a b h k = h
swapped_by false n a b h k = k

look-short : (n : ℕ) (g : Grid MacroblockMotion) (o : Option Place) → AreWithin n g → IsWithin n (own (look intra g o))
unfolding intra own
look-short n g None h = still-short n
look-short n g (Some p) h = h p

neighbours-short : (n : ℕ) (g : Grid MacroblockMotion) (p : Place) (r : Reference) (b : SignBiases) → AreWithin n g → AreShort n (neighbours g p r b)
unfolding neighbours
neighbours-short n g p r b h =
    append-short n _ _ (counted-short n r b 2 _ (look-short n g (above p) h))
    (append-short n _ _ (counted-short n r b 2 _ (look-short n g (left p) h)) (counted-short n r b 1 _ (look-short n g (corner p) h)))

pub candidates-short : (n : ℕ) (g : Grid MacroblockMotion) (p : Place) (r : Reference) (b : SignBiases) → AreWithin n g → AreCandidatesWithin n (candidates g p r b)
unfolding candidates
candidates-short n g p r b h =
    let moving = without-short n zero_vector _ (neighbours-short n g p r b h) in
    let first = first-short n _ moving in
    let second = first-short n _ (without-short n _ _ moving) in
    swapped_by _ n _ _ (two-short n g p _ _ _ _ second first) (two-short n g p _ _ _ _ first second)

pub new-short : (v u : Vector) → IsWithin 511 v → IsWithin 511 u → IsWithin 1023 (difference_of v u)
new-short v u h k = record {
  low_row = omega (arith, ints, h, k);
  high_row = omega (arith, ints, h, k);
  low_column = omega (arith, ints, h, k);
  high_column = omega (arith, ints, h, k);
}

-- ---- What is put into a map

at_by : (inside : Bool) (n : ℕ) (old new : Option MacroblockMotion) → (IsWithin n (own (unwrap_or old intra)) → IsWithin n (own (unwrap_or new intra)))
    → IsWithin n (own (unwrap_or (cond inside old None) intra)) → IsWithin n (own (unwrap_or (cond inside new None) intra))
at_by true n old new f h = f h
at_by false n old new f h = h

set-short : (n : ℕ) (es : List MacroblockMotion) (i j : ℕ) (e : MacroblockMotion) → IsWithin n (own e) → IsWithin n (own (unwrap_or (slice_get es j) intra))
    → IsWithin n (own (unwrap_or (slice_get (slice_set es i e) j) intra))
set-short n [] i j e h k = k
set-short n (x ∷ es) zero zero e h k = h
set-short n (x ∷ es) zero (suc j) e h k = k
set-short n (x ∷ es) (suc i) zero e h k = k
set-short n (x ∷ es) (suc i) (suc j) e h k = set-short n es i j e h k

pub map-short : (n : ℕ) (g : Grid MacroblockMotion) (p : Place) (e : MacroblockMotion) → AreWithin n g → IsWithin n (own e) → AreWithin n (with_entry g p e)
unfolding grid.entry changed
map-short n g p e h k q = at_by (nat_lt q.column g.columns) n _ _ (set-short n g.entries _ _ e k) (h q)

intra-short : (n : ℕ) → IsWithin n (own intra)
unfolding intra own
intra-short n = still-short n

replicate-short : (n m j : ℕ) → IsWithin n (own (unwrap_or (slice_get (replicate m intra) j) intra))
replicate-short n zero j = intra-short n
replicate-short n (suc m) zero = intra-short n
replicate-short n (suc m) (suc j) = replicate-short n m j

none_by : (inside : Bool) (n : ℕ) → IsWithin n (own (unwrap_or (cond inside None None) intra))
none_by true n = intra-short n
none_by false n = intra-short n

pub all-short : (n columns rows : ℕ) → AreWithin n (all columns rows intra)
unfolding grid.entry repeated
all-short n columns rows q = at_by (nat_lt q.column columns) n None _ (λ h. replicate-short n (rows * columns) _) (none_by (nat_lt q.column columns) n)
