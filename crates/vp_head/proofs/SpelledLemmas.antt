-- What is read can be written.
use Rattle.std.proofs.Common.{◌≡◌, ◌∙◌, ℕ, zero, suc, ◌*◌, ◌%◌, ◌<◌, ◌≤◌, ◌^◌, ◌⊎◌, ℤ, pos, neg_ℤ, List, [], ◌∷◌, Bool, true, false, not, cond, refl, sym, ap, arith, is_some, unsigned_abs, inl, inr, set, get_or, subst}
use Rattle.std.specs.Prelude.{slice_index, slice_index_or, ◌==◌}
use Rattle.std.proofs.lemmas.Bool.{ne_eqb}
use Rattle.vp_bool.specs.Bools.{State, read, literal}
use Rattle.vp_bool.specs.Reader.{Reader, bind, when, each}
use Rattle.vp_head.specs.Rows.{magnitude, optional_signed, four_signed}
use Rattle.vp_head.specs.Saved.{defaults}
use Rattle.vp_head.specs.Probabilities.{vector_renewed, vector_entry_at, component_at, vectors, seven_bits, luma_mode_probabilities, chroma}
use Rattle.vp_head.specs.Header.{segment_values, tree_probabilities, segmentation, filter, all_deltas, level_deltas, quantiser_indices, copy, refreshes, reference_probabilities, no_references, frame, frame_and_kept, header}
use Rattle.vp_head.specs.Spelled.{IsSigned, AreSigned, AreSegmentValues, IsSegmentation, IsFilter, AreDeltas, IsQuantiser, AreUpdates, IsVectorProbability, AreVectorProbabilities, IsWritableHeader, IsWritableInPacket}
use Rattle.vp_head.specs.declared.fields.SegmentValues.{SegmentValues}
use Rattle.vp_head.specs.declared.fields.LevelDeltas.{LevelDeltas}
use Rattle.vp_head.specs.declared.fields.ReferenceCopy.TheVariants.{Nothing}
use Rattle.vp_head.specs.declared.fields.SignBiases.{SignBiases}
use Rattle.vp_head.specs.declared.fields.Tag.{Tag}
use Rattle.vp_head.specs.declared.fields.Saved.{Saved}
use Rattle.vp_tables.specs.declared.mode_probabilities.TheConstants.{VECTOR_UPDATES}
use Rattle.vp_head.proofs.Numbers.{literal-small}

-- ---- numbers with a sign

of_sign : (minus : Bool) (v m : ℕ) → v < m → unsigned_abs (cond minus (neg_ℤ (pos v)) (pos v)) < m
of_sign true zero m h = h
of_sign true (suc v) m h = h
of_sign false v m h = h

magnitude-spelled : (n : ℕ) (s : State) → unsigned_abs (magnitude n s).0 < 2 ^ n
unfolding magnitude bind
magnitude-spelled n s = of_sign (read 128 (literal n s).1).0 (literal n s).0 (2 ^ n) (literal-small n s)

asked-spelled : (asked : Bool) (n : ℕ) (z : ℤ) (s : State) → IsSigned n z (when asked (magnitude n) z s).0
asked-spelled true n z s h = magnitude-spelled n s
asked-spelled false n z s h = absurd (h refl)

signed-spelled : (n : ℕ) (z : ℤ) (s : State) → IsSigned n z (optional_signed n z s).0
unfolding optional_signed bind
signed-spelled n z s = asked-spelled (read 128 s).0 n z (read 128 s).1

four_signed-spelled : (n : ℕ) (old : List ℤ) (s : State) → AreSigned n old (four_signed n old s).0
unfolding four_signed bind
four_signed-spelled n old s = record { first = signed-spelled n _ _; second = signed-spelled n _ _; third = signed-spelled n _ _; fourth = signed-spelled n _ _ }

as_kept : (n : ℕ) (old : List ℤ) → AreSigned n old old
as_kept n old = record { first = λ h. absurd (h refl); second = λ h. absurd (h refl); third = λ h. absurd (h refl); fourth = λ h. absurd (h refl) }

-- ---- segments, filter, deltas, quantiser

segment_values-spelled : (s : State) → AreSegmentValues (segment_values s).0
unfolding segment_values bind
segment_values-spelled s = record {
  quantisers = record { first = signed-spelled 7 _ _; second = signed-spelled 7 _ _; third = signed-spelled 7 _ _; fourth = signed-spelled 7 _ _ };
  levels = record { first = signed-spelled 6 _ _; second = signed-spelled 6 _ _; third = signed-spelled 6 _ _; fourth = signed-spelled 6 _ _ };
}

asked_values-spelled : (asked : Bool) (kept : SegmentValues) (s : State) → ¬ ((when asked segment_values kept s).0 ≡ kept) → AreSegmentValues (when asked segment_values kept s).0
asked_values-spelled true kept s h = segment_values-spelled s
asked_values-spelled false kept s h = absurd (h refl)

-- what isn't asked for is as it stands without
unasked : {A : Type 0} (asked : Bool) (m : Reader A) (a : A) (s : State) → asked ≡ false → (when asked m a s).0 ≡ a
unasked true m a s e = absurd cc
unasked false m a s e = refl

segmentation-spelled : (kept : SegmentValues) (s : State) → IsSegmentation kept (segmentation kept s).0
unfolding segmentation bind
segmentation-spelled kept s =
    record {
      off = λ e. (unasked _ (read 128) false _ e, unasked _ segment_values kept _ (unasked _ (read 128) false _ e));
      on = asked_values-spelled _ kept _;
      no_map = λ e. unasked _ tree_probabilities (255 ∷ 255 ∷ 255 ∷ []) _ e;
    }

asked_deltas-spelled : (asked : Bool) (kept : LevelDeltas) (s : State)
    → AreSigned 6 kept.reference (when asked (all_deltas kept) kept s).0.reference × AreSigned 6 kept.mode (when asked (all_deltas kept) kept s).0.mode
unfolding bind
asked_deltas-spelled true kept s = (four_signed-spelled 6 kept.reference _, four_signed-spelled 6 kept.mode _)
asked_deltas-spelled false kept s = (as_kept 6 kept.reference, as_kept 6 kept.mode)

level_deltas-spelled : (kept : LevelDeltas) (s : State) → AreDeltas kept (level_deltas kept s).0.0 (level_deltas kept s).0.1
unfolding level_deltas bind
level_deltas-spelled kept s =
    let both = asked_deltas-spelled (when (read 128 s).0 (read 128) false (read 128 s).1).0 kept (when (read 128 s).0 (read 128) false (read 128 s).1).1 in
    record {
      off = λ e. unasked _ (all_deltas kept) kept _ (unasked _ (read 128) false _ e);
      reference = both.0;
      mode = both.1;
    }

filter-spelled : (s : State) → IsFilter (filter s).0
unfolding filter bind
filter-spelled s = record { level = literal-small 6 _; sharpness = literal-small 3 _ }

quantiser-spelled : (s : State) → IsQuantiser (quantiser_indices s).0
unfolding quantiser_indices bind
quantiser-spelled s = record {
  y_ac = literal-small 7 _;
  y_dc = signed-spelled 4 _ _;
  y2_dc = signed-spelled 4 _ _;
  y2_ac = signed-spelled 4 _ _;
  uv_dc = signed-spelled 4 _ _;
  uv_ac = signed-spelled 4 _ _;
}

not_of : (b : Bool) → b ≡ true → not b ≡ false
not_of true e = refl
not_of false e = absurd cc

updates-spelled : (key : Bool) (kept : SignBiases) (s : State) → AreUpdates key (refreshes key kept s).0.updates
unfolding refreshes bind
updates-spelled key kept s = record {
  golden = λ e. unasked _ (read 128) true _ (not_of key e);
  alt = λ e. unasked _ (read 128) true _ (not_of key e);
  last = λ e. unasked _ (read 128) true _ (not_of key e);
  no_copy_to_golden = λ e. unasked _ copy Nothing _ (not_of _ e);
  no_copy_to_alt = λ e. unasked _ copy Nothing _ (not_of _ e);
}

biases_same : (b kept : SignBiases) → b.golden ≡ kept.golden → b.alt ≡ kept.alt → b ≡ kept
biases_same b kept p q = λ i. record { golden = p i; alt = q i }

biases-spelled : (key : Bool) (kept : SignBiases) (s : State) → key ≡ true → (refreshes key kept s).0.biases ≡ kept
unfolding refreshes bind
biases-spelled key kept s e =
    biases_same _ kept (unasked _ (read 128) kept.golden _ (not_of key e)) (unasked _ (read 128) kept.alt _ (not_of key e))

-- ---- vector probabilities

set_either : {X : Type 0} (xs : List X) (n : ℕ) (y : X) (i : ℕ) (d : X) → (get_or (set xs n y) i d ≡ get_or xs i d) ⊎ ((i ≡ n) × (get_or (set xs n y) i d ≡ y))
set_either [] n y i d = inl refl
set_either (x ∷ xs) zero y zero d = inr (refl, refl)
set_either (x ∷ xs) zero y (suc i) d = inl refl
set_either (x ∷ xs) (suc n) y zero d = inl refl
set_either (x ∷ xs) (suc n) y (suc i) d =
    elim (set_either xs n y i d) [
      | inl e ↦ inl e
      | inr e ↦ inr (ap suc e.0, e.1)
    ]

-- the items behind those that are read stay
each-behind : {X : Type 0} (d : X) (row : ℕ → X → Reader X) (n : ℕ) (xs : List X) (s : State) (i : ℕ) → n ≤ i → get_or (each d n row xs s).0 i d ≡ get_or xs i d
unfolding each bind
each-behind d row zero xs s i h = refl
each-behind d row (suc n) xs s i h =
    let so_far = each-behind d row n xs s i (omega arith) in
    elim (set_either (each d n row xs s).0 n _ i d) [
      | inl e ↦ e ∙ so_far
      | inr e ↦ absurd (omega (arith, e.0))
    ]

-- what holds of each item and itself, and of each and what its row reads, holds of all items
each-all : {X : Type 0} (d : X) (P : X → X → Type 0) (row : ℕ → X → Reader X) → ((x : X) → P x x) → ((i : ℕ) (x : X) (s : State) → P x (row i x s).0)
    → (n : ℕ) (xs : List X) (s : State) (i : ℕ) → P (get_or xs i d) (get_or (each d n row xs s).0 i d)
unfolding each bind
each-all d P row same reads zero xs s i = same (get_or xs i d)
each-all d P row same reads (suc n) xs s i =
    let ys = each d n row xs s in
    elim (set_either ys.0 n (row n (get_or ys.0 n d) ys.1).0 i d) [
      | inl e ↦ subst (λ y. P (get_or xs i d) y) (sym e) (each-all d P row same reads n xs s i)
      | inr e ↦
          let old : get_or ys.0 n d ≡ get_or xs i d = each-behind d row n xs s n (omega arith) ∙ ap (λ (k : ℕ). get_or xs k d) (sym e.0) in
          subst (λ y. P (get_or xs i d) y) (sym e.1) (subst (λ x. P x (row n (get_or ys.0 n d) ys.1).0) old (reads n (get_or ys.0 n d) ys.1))
    ]

stays : (p : ℕ) → IsVectorProbability p p
stays p h = absurd (h refl)

seven-spelled : (x : ℕ) → (cond (x == 0) 1 (2 * x) ≡ 1) ⊎ ((cond (x == 0) 1 (2 * x) % 2 ≡ 0) × (0 < cond (x == 0) 1 (2 * x)))
seven-spelled zero = inl refl
seven-spelled (suc x) =
    let some : (suc x == 0) ≡ false = ne_eqb (suc x) 0 (λ e. absurd cc) in
    rw some (inr (omega arith, omega arith))

renewed-spelled : (asked : Bool) (old : ℕ) (s : State) → IsVectorProbability old (when asked seven_bits old s).0
unfolding bind
renewed-spelled true old s h = seven-spelled (literal 7 s).0
renewed-spelled false old s h = absurd (h refl)

vector_entry-spelled : (table : List ℕ) (i old : ℕ) (s : State) → IsVectorProbability old (vector_entry_at table i old s).0
unfolding vector_renewed bind
vector_entry-spelled table i old s = renewed-spelled (read (slice_index table i) s).0 old (read (slice_index table i) s).1

-- each of a component's probabilities
abbrev AreComponents : List ℕ → List ℕ → Type 0
AreComponents old new = (j : ℕ) → IsVectorProbability (slice_index old j) (slice_index new j)

component-spelled : (table : List (List ℕ)) (i : ℕ) (old : List ℕ) (s : State) → AreComponents old (component_at table i old s).0
component-spelled table i old s =
    let row = slice_index_or table i [] in
    each-all 0 IsVectorProbability (vector_entry_at row) stays (vector_entry-spelled row) 19 old s

vectors-spelled : (asked : Bool) (old : List (List ℕ)) (s : State) → AreVectorProbabilities old (when asked (vectors old) old s).0
unfolding vectors
vectors-spelled true old s = each-all [] AreComponents (component_at VECTOR_UPDATES) (λ xs j. stays (slice_index xs j)) (component-spelled VECTOR_UPDATES) 2 old s
vectors-spelled false old s = λ i j. stays (slice_index (slice_index_or old i []) j)

-- ---- every header

frame-spelled : (key : Bool) (kept : Saved) (s : State) → IsWritableHeader key kept (frame key kept s).0
unfolding frame bind
frame-spelled key kept s = record {
  kind = refl;
  color_space = unasked key (read 128) false _;
  clamping_type = unasked key (read 128) false _;
  segmentation = segmentation-spelled kept.segments _;
  filter = filter-spelled _;
  deltas = level_deltas-spelled kept.deltas _;
  log2_partitions = literal-small 2 _;
  quantiser = quantiser-spelled _;
  updates = updates-spelled key kept.biases _;
  biases = biases-spelled key kept.biases _;
  references = λ e. unasked (not key) reference_probabilities no_references _ (not_of key e);
  luma = λ e. unasked (not key) (luma_mode_probabilities kept.probabilities.luma) kept.probabilities.luma _ (not_of key e);
  chroma = λ e. unasked (not key) (chroma kept.probabilities.chroma) kept.probabilities.chroma _ (not_of key e);
  vectors = λ e. unasked (not key) (vectors kept.probabilities.vectors) kept.probabilities.vectors _ (not_of key e);
  vector = λ e. vectors-spelled (not key) kept.probabilities.vectors _;
}

pub header-spelled : (saved : Saved) (tag : Tag) (s : State) → IsWritableInPacket saved tag (header saved tag s).0.0
unfolding header frame_and_kept bind
header-spelled saved tag s =
    elim (is_some tag.key) as (λ b. IsWritableHeader b (cond b defaults saved) (cond b (frame_and_kept true defaults) (frame_and_kept false saved) s).0.0) [
      | true ↦ frame-spelled true defaults s
      | false ↦ frame-spelled false saved s
    ]
