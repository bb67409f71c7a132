-- The first two vectors of the neighbours are the first two entries, counted one after the other.
use Rattle.std.proofs.Common.{◌≡◌, ◌∙◌, ℕ, true, false, cond, List, [], ◌∷◌, ◌++◌, refl, sym, ap, arith, inl, inr, Option, Some, None}
use Rattle.std.specs.Prelude.{nat_lt}
use Rattle.std.proofs.lemmas.Bool.{cases_Bool}
use Rattle.std.proofs.lemmas.Cmp.{int_eq_equiv}
use Rattle.std.specs.Prelude.{◌&&◌}
use Rattle.vp_motion.specs.declared.vector.Weighted.{Weighted}
use Rattle.vp_motion.specs.Vector.{Vector, Candidates, zero_vector}
use Rattle.vp_motion.specs.Near.{first_vector, from_two, same, weight_of, without}
use Rattle.vp_motion.specs.Counting.{first_candidate, from_entries, moving, onto, runs, still_weight, weighted_at, weighted_vector}
use Rattle.vp_motion.proofs.Counts.{same-same, same-true}

same-turned : (u v : Vector) → same u v ≡ same v u
unfolding same
same-turned u v = λ i. int_eq_equiv.symm u.row v.row i && int_eq_equiv.symm u.column v.column i

abbrev entry : Vector → ℕ → Weighted
entry v k = record { vector = v; weight = k }

-- the first two different vectors of ws are the first two entries
abbrev AreEntries : List Weighted → Type 0
AreEntries ws = (first_vector ws ≡ first_candidate (runs ws)) × (first_vector (without (first_vector ws).vector ws) ≡ weighted_at (runs ws) 1)

of_none : AreEntries []
unfolding first_vector without first_candidate runs
of_none = (refl, refl)

of_one : (u : Vector) (k : ℕ) → AreEntries (entry u k ∷ [])
unfolding first_vector without weight_of first_candidate runs onto
of_one u k = rw (same-same u) (ap (entry u) (omega arith), refl)

of_two : (u v : Vector) (k l : ℕ) → AreEntries (entry u k ∷ (entry v l ∷ []))
unfolding first_vector without weight_of first_candidate runs onto
of_two u v k l = elim (cases_Bool (same u v)) [
  | inl t ↦ rw (t, sym (same-turned u v) ∙ t, same-same u) (ap (entry u) (omega arith), refl)
  | inr f ↦ rw (f, sym (same-turned u v) ∙ f, same-same u, same-same v) (ap (entry u) (omega arith), ap (entry v) (omega arith))
]

abbrev three : (u v w : Vector) → ℕ → ℕ → List Weighted
three u v w k l = entry u k ∷ (entry v l ∷ (entry w 1 ∷ []))

-- the third vector is a third one, or one of the first two, which differ
of_different : (u v w : Vector) (k l : ℕ) → same u v ≡ false → AreEntries (three u v w k l)
unfolding first_vector without weight_of first_candidate runs onto
of_different u v w k l f = elim (cases_Bool (same v w)) [
  | inl t ↦
      let e : same w u ≡ false = ap (λ (x : Vector). same x u) (sym (same-true v w t)) ∙ sym (same-turned u v) ∙ f in
      rw (t, f, e, sym (same-turned u v) ∙ f, same-same u, same-same v, sym (same-turned v w) ∙ t) (ap (entry u) (omega arith), ap (entry v) (omega arith))
  | inr g ↦ elim (cases_Bool (same w u)) [
    | inl t ↦ rw (g, f, t, sym (same-turned u v) ∙ f, same-same u, same-same v) (ap (entry u) (omega arith), ap (entry v) (omega arith))
    | inr d ↦ rw (g, f, d, sym (same-turned u v) ∙ f, same-same u, same-same v, sym (same-turned v w) ∙ g) (ap (entry u) (omega arith), ap (entry v) (omega arith))
  ]
]

-- the first two vectors are equal
of_equal : (u v w : Vector) (k l : ℕ) → same u v ≡ true → AreEntries (three u v w k l)
unfolding first_vector without weight_of first_candidate runs onto
of_equal u v w k l t = elim (cases_Bool (same v w)) [
  | inl h ↦
      let e : same w u ≡ true = ap (λ (x : Vector). same x u) (sym (same-true v w h)) ∙ sym (same-turned u v) ∙ t in
      rw (h, t, e, sym (same-turned u v) ∙ t, same-same u) (ap (entry u) (omega arith), refl)
  | inr d ↦
      let e : same w u ≡ false = ap (same w) (same-true u v t) ∙ sym (same-turned v w) ∙ d in
      rw (d, t, e, sym (same-turned u v) ∙ t, same-same u, same-same w) (ap (entry u) (omega arith), ap (entry w) (omega arith))
]

of_three : (u v w : Vector) (k l : ℕ) → AreEntries (three u v w k l)
of_three u v w k l = elim (cases_Bool (same u v)) [
  | inl t ↦ of_equal u v w k l t
  | inr f ↦ of_different u v w k l f
]

-- ---- neighbours

of_some : (above left corner : Option Vector) → AreEntries (weighted_vector 2 above ++ (weighted_vector 2 left ++ weighted_vector 1 corner))
of_some None None None = of_none
of_some None None (Some w) = of_one w 1
of_some None (Some v) None = of_one v 2
of_some None (Some v) (Some w) = of_two v w 2 1
of_some (Some u) None None = of_one u 2
of_some (Some u) None (Some w) = of_two u w 2 1
of_some (Some u) (Some v) None = of_two u v 2 2
of_some (Some u) (Some v) (Some w) = of_three u v w 2 2

-- a vector that isn't zero
abbrev moved : Option Vector → Option Vector
moved None = None
moved (Some v) = cond (same v zero_vector) None (Some v)

moving-front : (k : ℕ) (o : Option Vector) (ws : List Weighted) → moving (weighted_vector k o ++ ws) ≡ weighted_vector k (moved o) ++ moving ws
unfolding without
moving-front k None ws = refl
moving-front k (Some v) ws = elim (cases_Bool (same v zero_vector)) [
  | inl t ↦ rw t refl
  | inr f ↦ rw f refl
]

moving-last : (k : ℕ) (o : Option Vector) → moving (weighted_vector k o) ≡ weighted_vector k (moved o)
unfolding without
moving-last k None = refl
moving-last k (Some v) = elim (cases_Bool (same v zero_vector)) [
  | inl t ↦ rw t refl
  | inr f ↦ rw f refl
]

-- the candidates of these neighbours
abbrev pub chosen : (Vector → Vector) → ℕ → List Weighted → Candidates
chosen clamp splits ws =
    let first = first_vector (moving ws) in
    let second = first_vector (without first.vector (moving ws)) in
    let by = from_two clamp (weight_of zero_vector ws) splits in
    cond (nat_lt first.weight second.weight) (by second first) (by first second)

module _ (above left corner : Option Vector) where
  abbrev ws : List Weighted
  ws = weighted_vector 2 above ++ (weighted_vector 2 left ++ weighted_vector 1 corner)

  split_moving : moving ws ≡ weighted_vector 2 (moved above) ++ (weighted_vector 2 (moved left) ++ weighted_vector 1 (moved corner))
  split_moving =
      moving-front 2 above _
      ∙ ap (λ (es : List Weighted). weighted_vector 2 (moved above) ++ es) (moving-front 2 left _ ∙ ap (λ (es : List Weighted). weighted_vector 2 (moved left) ++ es) (moving-last 1 corner))

  are_entries : AreEntries (moving ws)
  are_entries = rw split_moving (of_some (moved above) (moved left) (moved corner))

  pub entries_are_chosen : (clamp : Vector → Vector) (splits : ℕ) → from_entries clamp (still_weight ws) splits (runs (moving ws)) ≡ chosen clamp splits ws
  unfolding from_entries
  entries_are_chosen clamp splits =
      let by = from_two clamp (still_weight ws) splits in
      λ i.
      let first = sym are_entries.0 i in
      let second = sym are_entries.1 i in
      cond (nat_lt first.weight second.weight) (by second first) (by first second)
