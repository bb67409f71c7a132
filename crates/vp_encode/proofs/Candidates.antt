-- The motion of the macroblocks before a place. Candidates, and how motion without split is read, look at that of those
-- above and to the left alone.
use Rattle.std.proofs.Common.{◌≡◌, ◌≢◌, ◌∙◌, ℕ, zero, suc, ◌+◌, ◌*◌, ◌<◌, ◌++◌, List, false, length, length-set, replicate, cond, refl, sym, ap, subst, arith, inl, inr}
use Rattle.std.specs.Prelude.{Option, Some, None, option_map, unwrap_or, nat_lt, slice_get, neg_ℤ, pos, ◌-◌}
use Rattle.std.proofs.lemmas.Bool.{cases_Bool}
use Rattle.std.proofs.lemmas.List.{length-replicate}
use Rattle.std.proofs.lemmas.Option.{slice_get-map}
use Rattle.std.specs.Int.{from_bool}
use Rattle.std.specs.Option.{option_and_then}
use Rattle.vp_base.specs.declared.place.Place.{Place}
use Rattle.vp_base.specs.Place.{above, left, corner}
use Rattle.vp_base.specs.Grid.{Grid, Has, at, look, entry, changed, with_entry, mapped, repeated, all as everywhere}
use Rattle.vp_base.proofs.GridLemmas.{entry-here, entry-elsewhere}
use Rattle.vp_base.proofs.OverLemmas.{over-none, over-more}
use Rattle.vp_bool.specs.Bools.{State}
use Rattle.vp_bool.specs.Intervals.{Interval}
use Rattle.vp_bool.specs.Reader.{bind}
use Rattle.vp_bool.specs.Writing.{Writes}
use Rattle.vp_tables.specs.declared.modes.VectorMode.{VectorMode}
use Rattle.vp_tables.specs.declared.modes.VectorMode.TheVariants as vector_is
use Rattle.vp_tables.specs.Modes.{is_split}
use Rattle.vp_head.specs.declared.fields.Header.{Header}
use Rattle.vp_head.specs.Reference.{is_intra}
use Rattle.vp_base.proofs.NearLemmas.{above-some, left-some}
use Rattle.vp_head.specs.declared.fields.Reference.{Reference}
use Rattle.vp_head.specs.declared.fields.SignBiases.{SignBiases}
use Rattle.vp_modes.specs.Entry.{plain}
use Rattle.vp_motion.specs.Vector.{Candidates, MacroblockMotion, Motion, Vector, last_of, zero_vector}
use Rattle.vp_motion.specs.Motion.{motion_at, motion_by, vector_mode, vectors_by}
use Rattle.vp_motion.specs.Spelled.{CanBeWritten, GivesVector}
use Rattle.vp_motion.specs.Map.{intra}
use Rattle.vp_motion.specs.Near.{neighbours, weighted_neighbour, split_count, splits, clamped_vector, clamped, candidates, first_vector, from_two, weight_of, without}
use Rattle.vp_decode.specs.MacroblockMaps.{place}
use Rattle.vp_choose.specs.declared.frame.Choice.{Choice}
use Rattle.vp_encode.specs.CodedFrame.{nothing, choice_at, saved_motion, saved_motions}
use Rattle.vp_choose.specs.Frame.{choice_motion}
use Rattle.vp_encode.specs.FrameChoices.{IsBeforeInRaster, IsMotionBefore, IsMotionOf}
use Rattle.vp_encode.specs.Written.{IsOnlyMotionBefore, motion_before, with_motion, with_row}
use Rattle.vp_encode.proofs.RasterOrder.{none_before, before_next, apart, row_over, not_itself, not_last, earlier_next, earlier_row, in_rows}

look-same : (g h : Grid MacroblockMotion) (o : Option Place) → ((q : Place) → o ≡ Some q → at intra g q ≡ at intra h q) → look intra g o ≡ look intra h o
look-same g h None same = refl
look-same g h (Some q) same = same q refl

and_then-some : (f : Place → Option Place) (o : Option Place) (q : Place) → option_and_then f o ≡ Some q → (r : Place) × (o ≡ Some r) × (f r ≡ Some q)
and_then-some f None q e = absurd cc
and_then-some f (Some r) q e = (r, refl, e)

-- two grids of one size that are alike before a place
pub candidates-same : (g h : Grid MacroblockMotion) (p : Place) (r : Reference) (b : SignBiases) → g.columns ≡ h.columns → g.rows ≡ h.rows → p.column < g.columns
    → ((q : Place) → q.column < g.columns → IsBeforeInRaster q p → at intra g q ≡ at intra h q) → candidates g p r b ≡ candidates h p r b
unfolding candidates neighbours split_count clamped_vector
candidates-same g h p r b columns rows inside same =
    let up = look-same g h (above p) (λ q e. let f = above-some p q e in same q (omega arith) (record { row = omega arith; column = λ level. absurd (omega arith) })) in
    let back = look-same g h (left p) (λ q e. let f = left-some p q e in same q (omega arith) (record { row = omega arith; column = λ level. omega arith })) in
    let across = look-same g h (corner p) (λ q e.
    let f = and_then-some left (above p) q e in
    let u = above-some p f.0 f.1 in
    let v = left-some f.0 q f.2 in
    same q (omega arith) (record { row = omega arith; column = λ level. absurd (omega arith) })) in
    λ i.
    let ws = weighted_neighbour r b 2 (up i) ++ (weighted_neighbour r b 2 (back i) ++ weighted_neighbour r b 1 (across i)) in
    let clamp : Vector → Vector = λ v. record {
      row = clamped (neg_ℤ (pos (64 * (p.row + 1)))) (pos (64 * (rows i - p.row))) v.row;
      column = clamped (neg_ℤ (pos (64 * (p.column + 1)))) (pos (64 * (columns i - p.column))) v.column;
    } in
    let split = 2 * from_bool (splits (up i)) + 2 * from_bool (splits (back i)) + from_bool (splits (across i)) in
    let moving = without zero_vector ws in
    let first = first_vector moving in
    let second = first_vector (without first.vector moving) in
    let by = from_two clamp (weight_of zero_vector ws) split in
    cond (nat_lt first.weight second.weight) (by second first) (by first second)

-- ---- grids that are mapped, or have one entry throughout

mapped_or : {A B : Type 0} (f : A → B) (a : A) (o : Option A) → unwrap_or (option_map f o) (f a) ≡ f (unwrap_or o a)
mapped_or f a None = refl
mapped_or f a (Some x) = refl

pub at-mapped : {A B : Type 0} (f : A → B) (a : A) (g : Grid A) (p : Place) → at (f a) (mapped f g) p ≡ f (at a g p)
unfolding entry
at-mapped f a g p = elim (cases_Bool (nat_lt p.column g.columns)) [
  | inl inside ↦
      let n = p.row * g.columns + p.column in
      rw (inside, slice_get-map f g.entries n) (mapped_or f a (slice_get g.entries n))
  | inr outside ↦ rw outside refl
]

pub motion_by-at : (g : Grid Choice) (p : Place) → at intra (mapped saved_motion g) p ≡ saved_motion (at nothing g p)
unfolding nothing plain
motion_by-at g p = at-mapped saved_motion nothing g p

repeated_or : (n i : ℕ) → unwrap_or (slice_get (replicate n intra) i) intra ≡ intra
repeated_or zero i = refl
repeated_or (suc n) zero = refl
repeated_or (suc n) (suc i) = repeated_or n i

-- without motion everywhere
pub all_still : (columns rows : ℕ) (p : Place) → at intra (everywhere columns rows intra) p ≡ intra
unfolding entry repeated
all_still columns rows p = elim (cases_Bool (nat_lt p.column columns)) [
  | inl inside ↦ rw inside (repeated_or (rows * columns) (p.row * columns + p.column))
  | inr outside ↦ rw outside refl
]

-- ---- the motion of the macroblocks before a place

pub motion_none : (columns rows : ℕ) (g : Grid Choice) (k : Grid MacroblockMotion) → g.columns ≡ columns → g.rows ≡ rows → k ≡ everywhere columns rows intra
    → IsMotionBefore g (place 0 0) k
motion_none columns rows g k wide high still = record {
  columns = ap (λ (m : Grid MacroblockMotion). m.columns) still ∙ sym wide;
  rows = ap (λ (m : Grid MacroblockMotion). m.rows) still ∙ sym high;
  moved = λ q has earlier. absurd (none_before q earlier);
}

pub motion_next : (g : Grid Choice) (row n : ℕ) (k l : Grid MacroblockMotion) → IsMotionBefore g (place row n) k → l.columns ≡ k.columns → l.rows ≡ k.rows
    → at intra l (place row n) ≡ saved_motion (choice_at g (place row n)) → ((q : Place) → q ≢ place row n → at intra l q ≡ at intra k q) → IsMotionBefore g (place row (n + 1)) l
motion_next g row n k l before columns rows here elsewhere = record {
  columns = columns ∙ before.columns;
  rows = rows ∙ before.rows;
  moved = λ q has earlier. elim (before_next q row n earlier) [
    | inl old ↦ elsewhere q (apart q (place row n) old) ∙ before.moved q has old
    | inr last ↦ subst (λ (r : Place). at intra l r ≡ saved_motion (choice_at g r)) (sym last) here
  ];
}

pub motion_row : (g : Grid Choice) (row n : ℕ) (k : Grid MacroblockMotion) → n ≡ g.columns → IsMotionBefore g (place row n) k → IsMotionBefore g (place (row + 1) 0) k
motion_row g row n k all before = record {
  columns = before.columns;
  rows = before.rows;
  moved = λ q has earlier. before.moved q has (row_over q row n (omega (arith, has.column)) earlier);
}

-- these are all that candidates look at
pub motion_candidates : (g : Grid Choice) (p : Place) (k : Grid MacroblockMotion) (r : Reference) (b : SignBiases) → Has g p → IsMotionBefore g p k
    → candidates k p r b ≡ candidates (saved_motions g) p r b
motion_candidates g p k r b has before =
    candidates-same k (saved_motions g) p r b before.columns before.rows (omega (arith, has.column, before.columns))
    (λ q within earlier. before.moved q (record { column = omega (arith, within, before.columns); row = omega (arith, earlier.row, has.row) }) earlier ∙ sym (motion_by-at g q))

-- the motion of all macroblocks has that of those before p
pub motion_until : (g : Grid Choice) (p : Place) (k : Grid MacroblockMotion) → IsMotionOf g k → IsMotionBefore g p k
motion_until g p k all = record {
  columns = all.columns;
  rows = all.rows;
  moved = λ q has earlier. all.moved q has (in_rows q g.rows has.row);
}

-- ---- the motion of the macroblocks before a place, and no other

pub motion_before-none : (g : Grid Choice) → motion_before g (place 0 0) ≡ everywhere g.columns g.rows intra
unfolding motion_before
motion_before-none g = over-none _ _ ∙ over-none _ _

pub motion_before-next : (g : Grid Choice) (row n : ℕ) → motion_before g (place row (n + 1)) ≡ with_motion g (place row n) (motion_before g (place row n))
unfolding motion_before
motion_before-next g row n = over-more n _ _

pub motion_before-row : (g : Grid Choice) (row : ℕ) → motion_before g (place (row + 1) 0) ≡ motion_before g (place row g.columns)
unfolding motion_before
motion_before-row g row = over-none _ _ ∙ over-more row (with_row g g.columns) _

pub only_none : (g : Grid Choice) (k : Grid MacroblockMotion) → k ≡ everywhere g.columns g.rows intra → IsOnlyMotionBefore g (place 0 0) k
unfolding repeated
only_none g k still = record {
  before = motion_none g.columns g.rows g k refl refl still;
  unmoved = λ q later. ap (λ (m : Grid MacroblockMotion). at intra m q) still ∙ all_still g.columns g.rows q;
  whole = subst (λ (m : Grid MacroblockMotion). length m.entries ≡ m.rows * m.columns) (sym still) (length-replicate (g.rows * g.columns) intra);
}

-- with a macroblock's motion at its place
only_moved : (g : Grid Choice) (row n : ℕ) (k l : Grid MacroblockMotion) → IsOnlyMotionBefore g (place row n) k → l.columns ≡ k.columns → l.rows ≡ k.rows
    → at intra l (place row n) ≡ saved_motion (choice_at g (place row n)) → ((q : Place) → q ≢ place row n → at intra l q ≡ at intra k q) → length l.entries ≡ length k.entries
    → IsOnlyMotionBefore g (place row (n + 1)) l
only_moved g row n k l only columns rows here elsewhere long = record {
  before = motion_next g row n k l only.before columns rows here elsewhere;
  unmoved = λ q later. elsewhere q (not_last q row n later) ∙ only.unmoved q (λ old. later (earlier_next q row n old));
  whole = long ∙ only.whole ∙ (λ i. sym rows i * sym columns i);
}

pub only_next : (g : Grid Choice) (row n : ℕ) (k : Grid MacroblockMotion) → Has g (place row n) → IsOnlyMotionBefore g (place row n) k
    → IsOnlyMotionBefore g (place row (n + 1)) (with_motion g (place row n) k)
unfolding changed
only_next g row n k has only =
    let p : Place = place row n in
    let c : Choice = choice_at g p in
    let inside : Has k p = record { column = omega (arith, has.column, only.before.columns); row = omega (arith, has.row, only.before.rows) } in
    elim (cases_Bool (is_intra c.modes.reference)) [
      | inl own ↦ rw own (only_moved g row n k k only refl refl (only.unmoved p (not_itself p) ∙ rw own refl) (λ q far. refl) refl)
      | inr away ↦ rw away (only_moved g row n k (with_entry k p (choice_motion c)) only refl refl
          (ap (λ o. unwrap_or o intra) (entry-here k p (choice_motion c) only.whole inside) ∙ rw away refl)
          (λ q far. ap (λ o. unwrap_or o intra) (entry-elsewhere k p (choice_motion c) q inside far))
          (length-set k.entries (p.row * k.columns + p.column) (choice_motion c)))
    ]

pub only_row : (g : Grid Choice) (row n : ℕ) (k : Grid MacroblockMotion) → n ≡ g.columns → IsOnlyMotionBefore g (place row n) k → IsOnlyMotionBefore g (place (row + 1) 0) k
only_row g row n k all only = record {
  before = motion_row g row n k all only.before;
  unmoved = λ q later. only.unmoved q (λ old. later (earlier_row q row n old));
  whole = only.whole;
}

-- ---- motion that is read with another map

vectors-same : (probabilities : List (List ℕ)) (g k : Grid MacroblockMotion) (p : Place) (c : Candidates) (mode : VectorMode) (s : State) → is_split mode ≡ false
    → vectors_by probabilities g p c mode s ≡ vectors_by probabilities k p c mode s
vectors-same probabilities g k p c vector_is.Zero s whole = refl
vectors-same probabilities g k p c vector_is.Nearest s whole = refl
vectors-same probabilities g k p c vector_is.Near s whole = refl
vectors-same probabilities g k p c vector_is.New s whole = refl
vectors-same probabilities g k p c vector_is.Split s whole = absurd cc

motion_by-same : (probabilities : List (List ℕ)) (g k : Grid MacroblockMotion) (p : Place) (c : Candidates) (s : State) → is_split (motion_by probabilities g p c s).0.mode ≡ false
    → motion_by probabilities k p c s ≡ motion_by probabilities g p c s
unfolding motion_by bind
motion_by-same probabilities g k p c s whole =
    let mode = vector_mode c.counts s in
    let give_motion : List Vector × State → Motion × State = λ v. (record { mode = mode.0; vectors = v.0 }, v.1) in
    ap give_motion (sym (vectors-same probabilities g k p c mode.0 mode.1 whole))

whole_given : (c : Candidates) (mode : VectorMode) (v : Vector) → GivesVector c mode v → is_split mode ≡ false
whole_given c vector_is.Zero v given = refl
whole_given c vector_is.Nearest v given = refl
whole_given c vector_is.Near v given = refl
whole_given c vector_is.New v given = refl
whole_given c vector_is.Split v given = absurd given

-- what is written over a map is read over another with the same candidates
pub written_over : (h : Header) (g k : Grid MacroblockMotion) (p : Place) (r : Reference) (m : Motion) {old new : Interval} → candidates k p r h.biases ≡ candidates g p r h.biases
    → CanBeWritten (candidates g p r h.biases) m → Writes (motion_at h g p r) old new m → Writes (motion_at h k p r) old new m
unfolding motion_at
written_over h g k p r m same given w = record {
  bools = w.bools;
  probabilities = w.probabilities;
  appended = w.appended;
  taken = λ s t reads.
      let was : motion_at h g p r s ≡ (m, t) = w.taken s t reads in
      let whole : is_split (motion_at h g p r s).0.mode ≡ false = ap (λ (x : Motion × State). is_split x.0.mode) was ∙ whole_given (candidates g p r h.biases) m.mode (last_of m.vectors) given in
      ap (λ (c : Candidates). motion_by h.probabilities.vectors k p c s) same ∙ motion_by-same h.probabilities.vectors g k p (candidates g p r h.biases) s whole ∙ was;
}
