-- What a mode gives.
use Rattle.std.proofs.Common.{◌≡◌, ◌∙◌, ℕ, ◌≤◌, true, false, Bool, List, refl, ap, sym, subst, arith, leb, get_or, replicate, ℤ, pos, negsuc, neg_ℤ, ◌≤ℤ◌, ◌-ℤ◌, ◌+ℤ◌}
use Rattle.std.proofs.lemmas.Bool.{leb-true, le-leb}
use Rattle.std.proofs.lemmas.Int.{ints}
use Rattle.std.specs.Prelude.{unsigned_abs}
use Rattle.vp_base.specs.Grid.{Grid}
use Rattle.vp_base.specs.declared.place.Place.{Place}
use Rattle.vp_bool.specs.Intervals.{Interval}
use Rattle.vp_bool.specs.Writing.{Writes}
use Rattle.vp_bool.proofs.WritingLemmas.{Writes-then, Continues-none, Continues-given}
use Rattle.vp_tables.specs.declared.modes.VectorMode.{VectorMode}
use Rattle.vp_tables.specs.declared.modes.VectorMode.TheVariants as vector_is
use Rattle.vp_motion.specs.Vector.{Vector, Candidates, MacroblockMotion, AreOne, IsWithin}
use Rattle.vp_motion.specs.Near.{same}
use Rattle.vp_motion.specs.Motion.{new_vector, vectors_by, sum_of}
use Rattle.vp_tables.specs.Modes.{is_split}
use Rattle.vp_motion.proofs.Counts.{same-same, same-true}
use Rattle.vp_motion.specs.Spelled.{GivesVector, difference_of}

same-itself : (u v : Vector) → u ≡ v → same u v ≡ true
same-itself u v e = rw e (same-same v)

-- two vectors are equal where the code says so
pub told_same : (u v : Vector) (b : Bool) → b ≡ same u v → (b ≡ true → u ≡ v) × (u ≡ v → b ≡ true)
told_same u v b e = (λ t. same-true u v (sym e ∙ t), λ h. e ∙ same-itself u v h)

pub not_below : (z : ℤ) → unsigned_abs z ≤ 1023 → neg_ℤ (pos 1023) ≤ℤ z
not_below (pos n) h = omega (arith, ints)
not_below (negsuc n) h = omega (arith, ints)

pub not_above : (z : ℤ) → unsigned_abs z ≤ 1023 → z ≤ℤ pos 1023
not_above (pos n) h = omega (arith, ints)
not_above (negsuc n) h = omega (arith, ints)

pub not_far : (z : ℤ) → neg_ℤ (pos 1023) ≤ℤ z → z ≤ℤ pos 1023 → unsigned_abs z ≤ 1023
not_far (pos n) l h = omega (arith, ints)
not_far (negsuc n) l h = omega (arith, ints)

-- a difference of which the row is short enough, and the column is tested
pub told_short : (v u : Vector) (row column : ℕ) → row ≡ unsigned_abs (v.row -ℤ u.row) → column ≡ unsigned_abs (v.column -ℤ u.column) → row ≤ 1023
    → (leb column 1023 ≡ true → IsWithin 1023 (difference_of v u)) × (IsWithin 1023 (difference_of v u) → leb column 1023 ≡ true)
told_short v u row column p q short =
    let r : unsigned_abs (v.row -ℤ u.row) ≤ 1023 = subst (λ (n : ℕ). n ≤ 1023) p short in (
      λ t. let k : unsigned_abs (v.column -ℤ u.column) ≤ 1023 = subst (λ (n : ℕ). n ≤ 1023) q (leb-true column 1023 t) in
          record { low_row = not_below _ r; high_row = not_above _ r; low_column = not_below _ k; high_column = not_above _ k },
      λ w. le-leb column 1023 (subst (λ (n : ℕ). n ≤ 1023) (sym q) (not_far _ w.low_column w.high_column)),
    )

-- the best one and the difference from it
added_back : (a b : ℤ) → b +ℤ (a -ℤ b) ≡ a
added_back a b = omega (arith, ints)

pub sum_of-difference : (v u : Vector) → sum_of u (difference_of v u) ≡ v
sum_of-difference v u = λ i. record { row = added_back v.row u.row i; column = added_back v.column u.column i }

-- ---- what is written behind the mode

pub new_given : (ps : List (List ℕ)) (g : Grid MacroblockMotion) (p : Place) (c : Candidates) (mode : VectorMode) (v : Vector) (old new : Interval) → mode ≡ vector_is.New
    → Writes (new_vector ps c.best) old new v → Writes (vectors_by ps g p c mode) old new (replicate 16 v)
new_given ps g p c mode v old new e w = rw e (Writes-then _ w (Continues-none _ _))

pub others_given : (ps : List (List ℕ)) (g : Grid MacroblockMotion) (p : Place) (c : Candidates) (mode : VectorMode) (v : Vector) (e : Interval) → ¬ (mode ≡ vector_is.New)
    → GivesVector c mode v → Writes (vectors_by ps g p c mode) e e (replicate 16 v)
others_given ps g p c vector_is.Zero v e n h = Continues-given (ap (λ (u : Vector). replicate 16 u) (sym h)) e
others_given ps g p c vector_is.Nearest v e n h = Continues-given (ap (λ (u : Vector). replicate 16 u) (sym h)) e
others_given ps g p c vector_is.Near v e n h = Continues-given (ap (λ (u : Vector). replicate 16 u) (sym h)) e
others_given ps g p c vector_is.New v e n h = absurd (n refl)
others_given ps g p c vector_is.Split v e n h = absurd h

pub whole : (c : Candidates) (mode : VectorMode) (v : Vector) → GivesVector c mode v → is_split mode ≡ false
whole c vector_is.Zero v h = refl
whole c vector_is.Nearest v h = refl
whole c vector_is.Near v h = refl
whole c vector_is.New v h = refl
whole c vector_is.Split v h = absurd h

-- the vectors of a macroblock that isn't split are its last one
pub one_vector : (mode : VectorMode) (vectors : List Vector) (v : Vector) → is_split mode ≡ false → AreOne mode vectors → replicate 16 (get_or vectors 15 v) ≡ vectors
one_vector mode vectors v w one = let e = one w in ap (λ (xs : List Vector). replicate 16 (get_or xs 15 v)) e ∙ sym e
