-- The end of a partition, counted in bits.
use Rattle.std.proofs.Common.{true, false, Bool, ◌≡◌, ℕ, suc, zero, ◌+◌, ◌-◌, ◌*◌, List, [], ◌∷◌, cond, refl, sym, ap, ◌∙◌, inl, inr, arith}
use Rattle.std.specs.Prelude.{◌||◌}
use Rattle.std.proofs.Math.Dec.{ltb}
use Rattle.std.proofs.lemmas.Bool.{lt-ltb, le-ltb, or_right, cases_lt, cases_eq, eq-eqb, ne_eqb, cond_both}
use Rattle.vp_bool.specs.Bools.{State, doubled, doubled_at, renormalised, bool_of, rest_of, read, whole_partition, initial_state, after_bools}
use Rattle.vp_bool.specs.Laws.{doublings_of, bits_shifted, PastIsBits}
use Rattle.vp_bool.proofs.BoolLemmas.{or_none, below_suc}
use Rattle.vp_bool.proofs.LawLemmas.{start_high, start_low, start_none}

-- a point moved by a bits, and then by b
moved_twice : (past : Bool) (k a b : ℕ) → ((past || ltb k a) || ltb (k - a) b) ≡ (past || ltb k (a + b))
moved_twice true k a b = refl
moved_twice false k a b = elim (cases_lt k a) [
  | inl less ↦ rw (lt-ltb k a less) (sym (lt-ltb k (a + b) (omega arith)))
  | inr most ↦ rw (le-ltb k a most) (elim (cases_lt (k - a) b) [
    | inl past ↦ lt-ltb (k - a) b past ∙ sym (lt-ltb k (a + b) (omega arith))
    | inr within ↦ le-ltb (k - a) b within ∙ sym (le-ltb k (a + b) (omega arith))
  ])
]

-- what n doublings make of the end
record Moved (s t : State) (n : ℕ) : Type 0 where
  past : t.past ≡ (s.past || ltb s.scale n)
  scale : t.scale ≡ s.scale - n

moved_none : (s : State) → Moved s s 0
moved_none s = record { past = sym (or_none s.past _ (le-ltb s.scale 0 (omega arith))); scale = omega arith }

moved_more_at : (k : ℕ) (s t : State) (n : ℕ) → k ≡ s.scale → Moved (doubled_at k s) t n → Moved s t (suc n)
moved_more_at zero s t n e m = record {
  past = m.past ∙ sym (or_right s.past _ (lt-ltb s.scale (suc n) (omega arith)));
  scale = m.scale ∙ omega arith;
}
moved_more_at (suc k) s t n e m = record {
  past = m.past ∙ ap (λ c. s.past || c) (below_suc n k ∙ ap (λ j. ltb j (suc n)) e);
  scale = m.scale ∙ omega arith;
}

range-doubled : (k : ℕ) (s : State) → (doubled_at k s).range ≡ 2 * s.range
range-doubled zero s = refl
range-doubled (suc k) s = refl

normal_moves : (n : ℕ) (s : State) → Moved s (renormalised n s) (doublings_of n s.range)
unfolding renormalised doublings_of
normal_moves zero s = moved_none s
normal_moves (suc n) s =
    let more = normal_moves n (doubled s) in
    let range = range-doubled s.scale s in
    elim (ltb s.range 128) as (λ b. Moved s (cond b (renormalised n (doubled s)) s) (cond b (suc (doublings_of n (2 * s.range))) 0)) [
      | true ↦ moved_more_at s.scale s (renormalised n (doubled s)) _ refl (rw range at more)
      | false ↦ moved_none s
    ]

rest-end : (p : ℕ) (s : State) → ((rest_of p s).past ≡ s.past) × ((rest_of p s).scale ≡ s.scale)
rest-end p s = cond_both (bool_of p s) _ _ (λ (t : State). (t.past ≡ s.past) × (t.scale ≡ s.scale)) (λ _. (refl, refl)) (λ _. (refl, refl))

joined : (s t u : State) (n m : ℕ) → (t.past ≡ s.past) × (t.scale ≡ s.scale) → Moved t u n → (u.past || ltb u.scale m) ≡ (s.past || ltb s.scale (n + m))
joined s t u n m left moved = rw (moved.past, moved.scale, left.0, left.1) (moved_twice s.past s.scale n m)

all_bits : (ps : List ℕ) (s : State) → (after_bools ps s).past ≡ (s.past || ltb s.scale (bits_shifted ps s))
unfolding after_bools bits_shifted read
all_bits [] s = sym (or_none s.past _ (le-ltb s.scale 0 (omega arith)))
all_bits (p ∷ ps) s =
    let t = rest_of p s in
    let u = renormalised 7 t in
    all_bits ps u ∙ joined s t u (doublings_of 7 t.range) (bits_shifted ps u) (rest-end p s) (normal_moves 7 t)

pub past_is_bits : PastIsBits
unfolding whole_partition
past_is_bits [] ps = all_bits ps (initial_state []) ∙ rw start_none refl
past_is_bits (b ∷ bs) ps = elim (cases_eq b 255) [
  | inl e ↦ all_bits ps (initial_state (b ∷ bs)) ∙ rw (start_high b bs e, eq-eqb b 255 e) refl
  | inr e ↦ all_bits ps (initial_state (b ∷ bs)) ∙ rw (start_low b bs e, ne_eqb b 255 e) refl
]
