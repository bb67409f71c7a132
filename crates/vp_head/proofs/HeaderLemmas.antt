-- What holds of every header.
use Rattle.std.proofs.Common.{◌≡◌, ℕ, zero, suc, ◌≤◌, ◌<◌, ◌^◌, ℤ, pos, neg_ℤ, List, [], ◌∷◌, Bool, true, false, cond, refl, arith, is_some, unsigned_abs}
use Rattle.std.specs.Prelude.{IsSome, IsNone}
use Rattle.vp_bool.specs.Bools.{State, read, literal}
use Rattle.vp_bool.specs.Reader.{Reader, bind, when}
use Rattle.vp_head.specs.Bounds.{IsHeaderInRange, AreBounded, AreFilterValuesInRange}
use Rattle.vp_head.specs.Rows.{magnitude, optional_signed, four_signed}
use Rattle.vp_head.specs.Saved.{defaults}
use Rattle.vp_head.specs.Header.{segment_values, segmentation, filter, all_deltas, level_deltas, quantiser_indices, frame, frame_and_kept, header}
use Rattle.vp_head.specs.declared.fields.SegmentValues.{SegmentValues}
use Rattle.vp_head.specs.declared.fields.LevelDeltas.{LevelDeltas}
use Rattle.vp_head.specs.declared.fields.Tag.{Tag}
use Rattle.vp_head.specs.declared.fields.Header.{Header}
use Rattle.vp_head.specs.declared.fields.Saved.{Saved}
use Rattle.vp_head.proofs.Numbers.{literal-small}

two_bits : (s : State) → (literal 2 s).0 ≤ 3
two_bits s = let h : (literal 2 s).0 < 2 ^ 2 = literal-small 2 s in omega arith

three_bits : (s : State) → (literal 3 s).0 ≤ 7
three_bits s = let h : (literal 3 s).0 < 2 ^ 3 = literal-small 3 s in omega arith

six_bits : (s : State) → (literal 6 s).0 ≤ 63
six_bits s = let h : (literal 6 s).0 < 2 ^ 6 = literal-small 6 s in omega arith

seven_bits : (s : State) → (literal 7 s).0 ≤ 127
seven_bits s = let h : (literal 7 s).0 < 2 ^ 7 = literal-small 7 s in omega arith

-- ---- numbers with a sign

of_sign : (minus : Bool) (v b : ℕ) → v ≤ b → unsigned_abs (cond minus (neg_ℤ (pos v)) (pos v)) ≤ b
of_sign true zero b h = h
of_sign true (suc v) b h = h
of_sign false v b h = h

magnitude-within : (n b : ℕ) (s : State) → 2 ^ n ≤ suc b → unsigned_abs (magnitude n s).0 ≤ b
unfolding magnitude bind
magnitude-within n b s l =
    let h : (literal n s).0 < 2 ^ n = literal-small n s in
    of_sign (read 128 (literal n s).1).0 (literal n s).0 b (omega arith)

asked-within : (asked : Bool) (n b : ℕ) (z : ℤ) (s : State) → 2 ^ n ≤ suc b → unsigned_abs z ≤ b → unsigned_abs (when asked (magnitude n) z s).0 ≤ b
asked-within true n b z s l h = magnitude-within n b s l
asked-within false n b z s l h = h

signed-within : (n b : ℕ) (z : ℤ) (s : State) → 2 ^ n ≤ suc b → unsigned_abs z ≤ b → unsigned_abs (optional_signed n z s).0 ≤ b
unfolding optional_signed bind
signed-within n b z s l h = asked-within (read 128 s).0 n b z (read 128 s).1 l h

four-within : (b : ℕ) (x y z w : ℤ) → unsigned_abs x ≤ b → unsigned_abs y ≤ b → unsigned_abs z ≤ b → unsigned_abs w ≤ b → AreBounded b (x ∷ y ∷ z ∷ w ∷ [])
four-within b x y z w h k l m zero = h
four-within b x y z w h k l m (suc zero) = k
four-within b x y z w h k l m (suc (suc zero)) = l
four-within b x y z w h k l m (suc (suc (suc zero))) = m
four-within b x y z w h k l m (suc (suc (suc (suc i)))) = omega arith

from_zero : (n b : ℕ) (s : State) → 2 ^ n ≤ suc b → unsigned_abs (optional_signed n (pos 0) s).0 ≤ b
from_zero n b s l = signed-within n b (pos 0) s l (omega arith)

four_signed-within : (n b : ℕ) (old : List ℤ) (s : State) → 2 ^ n ≤ suc b → AreBounded b old → AreBounded b (four_signed n old s).0
unfolding four_signed bind
four_signed-within n b old s l h =
    four-within b _ _ _ _ (signed-within n b _ _ l (h 0)) (signed-within n b _ _ l (h 1)) (signed-within n b _ _ l (h 2)) (signed-within n b _ _ l (h 3))

-- the values of the segments
record AreSegmentsWithin (values : SegmentValues) : Type 0 where
  quantisers : AreBounded 127 values.quantisers
  levels : AreBounded 63 values.levels

segment_values-within : (s : State) → AreSegmentsWithin (segment_values s).0
unfolding segment_values bind
segment_values-within s = record {
  quantisers = four-within 127 _ _ _ _ (from_zero 7 127 _ (omega arith)) (from_zero 7 127 _ (omega arith)) (from_zero 7 127 _ (omega arith)) (from_zero 7 127 _ (omega arith));
  levels = four-within 63 _ _ _ _ (from_zero 6 63 _ (omega arith)) (from_zero 6 63 _ (omega arith)) (from_zero 6 63 _ (omega arith)) (from_zero 6 63 _ (omega arith));
}

asked_values-within : (asked : Bool) (kept : SegmentValues) (s : State) → AreSegmentsWithin kept → AreSegmentsWithin (when asked segment_values kept s).0
asked_values-within true kept s h = segment_values-within s
asked_values-within false kept s h = h

segmentation-within : (kept : SegmentValues) (s : State) → AreSegmentsWithin kept → AreSegmentsWithin (segmentation kept s).0.values
unfolding segmentation bind
segmentation-within kept s h = asked_values-within _ kept _ h

-- the level deltas
record AreDeltasWithin (deltas : LevelDeltas) : Type 0 where
  reference : AreBounded 63 deltas.reference
  mode : AreBounded 63 deltas.mode

all_deltas-within : (kept : LevelDeltas) (s : State) → AreDeltasWithin kept → AreDeltasWithin (all_deltas kept s).0
unfolding bind
all_deltas-within kept s h = record {
  reference = four_signed-within 6 63 kept.reference _ (omega arith) h.reference;
  mode = four_signed-within 6 63 kept.mode _ (omega arith) h.mode;
}

asked_deltas-within : (asked : Bool) (kept : LevelDeltas) (s : State) → AreDeltasWithin kept → AreDeltasWithin (when asked (all_deltas kept) kept s).0
asked_deltas-within true kept s h = all_deltas-within kept s h
asked_deltas-within false kept s h = h

level_deltas-within : (kept : LevelDeltas) (s : State) → AreDeltasWithin kept → AreDeltasWithin (level_deltas kept s).0.1
unfolding level_deltas bind
level_deltas-within kept s h = asked_deltas-within _ kept _ h

signed_in_range : (key : Bool) (kept : Saved) (s : State) → AreFilterValuesInRange kept.segments kept.deltas → AreFilterValuesInRange (frame key kept s).0.segmentation.values (frame key kept s).0.deltas
unfolding frame bind
signed_in_range key kept s h =
    let segments = segmentation-within kept.segments _ (record { quantisers = h.quantisers; levels = h.levels }) in
    let deltas = level_deltas-within kept.deltas _ (record { reference = h.reference; mode = h.mode }) in
    record { quantisers = segments.quantisers; levels = segments.levels; reference = deltas.reference; mode = deltas.mode }

pub defaults_in_range : AreFilterValuesInRange defaults.segments defaults.deltas
unfolding defaults
defaults_in_range =
    let zeros : AreBounded 63 (pos 0 ∷ pos 0 ∷ pos 0 ∷ pos 0 ∷ []) = four-within 63 _ _ _ _ (omega arith) (omega arith) (omega arith) (omega arith) in
    record {
      quantisers = four-within 127 _ _ _ _ (omega arith) (omega arith) (omega arith) (omega arith);
      levels = zeros;
      reference = zeros;
      mode = zeros;
    }

-- ---- every header

frame_in_range : (key : Bool) (kept : Saved) (s : State) → IsHeaderInRange (frame key kept s).0
unfolding frame bind filter quantiser_indices
frame_in_range key kept s = record {
  log2_partitions = two_bits _;
  level = six_bits _;
  sharpness = three_bits _;
  y_ac = seven_bits _;
  y_dc = from_zero 4 15 _ (omega arith);
  y2_dc = from_zero 4 15 _ (omega arith);
  y2_ac = from_zero 4 15 _ (omega arith);
  uv_dc = from_zero 4 15 _ (omega arith);
  uv_ac = from_zero 4 15 _ (omega arith);
}

frame-key : (key : Bool) (kept : Saved) (s : State) → (frame key kept s).0.key ≡ key
unfolding frame bind
frame-key key kept s = refl

of_either : (P : Header × Saved → Type 0) (b : Bool) (m n : Reader (Header × Saved)) (s : State) → P (m s).0 → P (n s).0 → P (cond b m n s).0
of_either P true m n s x y = x
of_either P false m n s x y = y

pub read_in_range : (key : Bool) (kept : Saved) (s : State) → IsHeaderInRange (frame_and_kept key kept s).0.0
unfolding frame_and_kept bind
read_in_range key kept s = frame_in_range key kept s

pub read-signed_in_range : (key : Bool) (kept : Saved) (s : State) → AreFilterValuesInRange kept.segments kept.deltas
    → AreFilterValuesInRange (frame_and_kept key kept s).0.0.segmentation.values (frame_and_kept key kept s).0.0.deltas
unfolding frame_and_kept bind
read-signed_in_range key kept s h = signed_in_range key kept s h

pub read-kept_in_range : (key : Bool) (kept : Saved) (s : State) → AreFilterValuesInRange kept.segments kept.deltas
    → AreFilterValuesInRange (frame_and_kept key kept s).0.1.segments (frame_and_kept key kept s).0.1.deltas
unfolding frame_and_kept bind
read-kept_in_range key kept s h = signed_in_range key kept s h

pub header_in_range : (saved : Saved) (tag : Tag) (s : State) → IsHeaderInRange (header saved tag s).0.0
unfolding header frame_and_kept bind
header_in_range saved tag s =
    of_either (λ r. IsHeaderInRange r.0) (is_some tag.key) (frame_and_kept true defaults) (frame_and_kept false saved) s (frame_in_range true defaults s) (frame_in_range false saved s)

pub header-key : (saved : Saved) (tag : Tag) (s : State) → (header saved tag s).0.0.key ≡ is_some tag.key
unfolding header frame_and_kept bind
header-key saved tag s =
    elim (is_some tag.key) as (λ b. (cond b (frame_and_kept true defaults) (frame_and_kept false saved) s).0.0.key ≡ b) [ true ↦ frame-key true defaults s | false ↦ frame-key false saved s ]

pub header-resets : (saved : Saved) (tag : Tag) → IsSome tag.key → header saved tag ≡ header defaults tag
unfolding header
header-resets saved tag k = rw k refl

comes_back : (key : Bool) (kept : Saved) (s : State) → (frame_and_kept key kept s).0.0.refresh_entropy ≡ false → (frame_and_kept key kept s).0.1.probabilities ≡ kept.probabilities
unfolding frame_and_kept bind
comes_back key kept s e = rw e refl

pub header-comes_back : (saved : Saved) (tag : Tag) (s : State) → IsNone tag.key → (header saved tag s).0.0.refresh_entropy ≡ false → (header saved tag s).0.1.probabilities ≡ saved.probabilities
unfolding header
header-comes_back saved tag s k = rw k (comes_back false saved s)

pub header-comes_back_key : (saved : Saved) (tag : Tag) (s : State) → IsSome tag.key → (header saved tag s).0.0.refresh_entropy ≡ false → (header saved tag s).0.1.probabilities ≡ defaults.probabilities
unfolding header
header-comes_back_key saved tag s k = rw k (comes_back true defaults s)
