-- The count of a macroblock's neighbours.
use Rattle.std.proofs.Common.{◌≡◌, ◌∙◌, ℕ, ◌+◌, ◌<◌, ◌≤◌, true, false, cond, List, [], ◌∷◌, refl, sym, ap, arith, inl, inr, add_assoc}
use Rattle.std.specs.Prelude.{nat_lt}
use Rattle.std.proofs.lemmas.Bool.{cases_Bool, and_parts, lt-ltb, le-ltb}
use Rattle.std.proofs.lemmas.Bool.Decides.{Decides-int_eq}
use Rattle.std.proofs.lemmas.List.Sums.{sum_by-cons}
use Rattle.std.specs.Ordering.{int_eq}
use Rattle.vp_motion.specs.declared.vector.NeighbourCount.{NeighbourCount}
use Rattle.vp_motion.specs.declared.vector.Weighted.{Weighted}
use Rattle.vp_motion.specs.Vector.{Vector, zero_vector}
use Rattle.vp_motion.specs.Near.{same, weight_of, without}
use Rattle.vp_motion.specs.Counting.{from_entries, first_candidate, still_weight, moving, onto, runs, nobody, Counts}

pub same-true : (u v : Vector) → same u v ≡ true → u ≡ v
unfolding same
same-true u v h =
    let p = and_parts (int_eq u.row v.row) (int_eq u.column v.column) h in
    λ i. record { row = (Decides-int_eq u.row v.row).0 p.0 i; column = (Decides-int_eq u.column v.column).0 p.1 i }

pub same-same : (v : Vector) → same v v ≡ true
unfolding same
same-same v = rw ((Decides-int_eq v.row v.row).1 refl, (Decides-int_eq v.column v.column).1 refl) refl

pub recount : (n : NeighbourCount) (y z : ℕ) (es fs : List Weighted) → Counts n y es → y ≡ z → es ≡ fs → Counts n z fs
recount n y z es fs h p q clamp splits = h clamp splits ∙ (λ i. from_entries clamp (p i) splits (q i))

-- the counts of none, one, two and three entries
pub counts-none : (z : ℕ) → Counts (record { zeros = z; nearest = nobody; near = nobody }) z []
unfolding from_entries first_candidate
counts-none z clamp splits = refl

pub counts-one : (z : ℕ) (a : Weighted) → Counts (record { zeros = z; nearest = a; near = nobody }) z (a ∷ [])
unfolding from_entries first_candidate
counts-one z a clamp splits = let l : nat_lt a.weight 0 ≡ false = le-ltb a.weight 0 (omega arith) in rw l refl

pub counts-two : (z : ℕ) (a b : Weighted) → b.weight ≤ a.weight → Counts (record { zeros = z; nearest = a; near = b }) z (a ∷ (b ∷ []))
unfolding from_entries first_candidate
counts-two z a b h clamp splits = let l : nat_lt a.weight b.weight ≡ false = le-ltb a.weight b.weight h in rw l refl

pub counts-swapped : (z : ℕ) (a b : Weighted) → a.weight < b.weight → Counts (record { zeros = z; nearest = b; near = a }) z (a ∷ (b ∷ []))
unfolding from_entries first_candidate
counts-swapped z a b h clamp splits = let l : nat_lt a.weight b.weight ≡ true = lt-ltb a.weight b.weight h in rw l refl

module _ (u v w : Vector) where
  abbrev three : List Weighted
  three = record { vector = u; weight = 2 } ∷ (record { vector = v; weight = 2 } ∷ (record { vector = w; weight = 1 } ∷ []))

  pub counts-three : same w u ≡ false
      → Counts (record { zeros = 0; nearest = record { vector = u; weight = 2 }; near = record { vector = v; weight = 2 } }) 0 three
  unfolding from_entries first_candidate
  counts-three h clamp splits = rw h refl

  pub counts-three-grown : same w u ≡ true
      → Counts (record { zeros = 0; nearest = record { vector = u; weight = 3 }; near = record { vector = v; weight = 2 } }) 0 three
  unfolding from_entries first_candidate
  counts-three-grown h clamp splits = rw h refl

pub weight_of-cons : (v : Vector) (w : Weighted) (ws : List Weighted) → weight_of v (w ∷ ws) ≡ cond (same w.vector v) w.weight 0 + weight_of v ws
unfolding weight_of
weight_of-cons v w ws = sum_by-cons (λ (x : Weighted). cond (same x.vector v) x.weight 0) w ws

-- the vector v with weight k, before the neighbours ws
module _ (v : Vector) (k : ℕ) (ws : List Weighted) where
  abbrev w : Weighted
  w = record { vector = v; weight = k }

  pub still-still : same v zero_vector ≡ true → k + still_weight ws ≡ still_weight (w ∷ ws)
  still-still h = sym (weight_of-cons zero_vector w ws ∙ rw h refl)

  pub still-moving : same v zero_vector ≡ false → still_weight ws ≡ still_weight (w ∷ ws)
  still-moving h = sym (weight_of-cons zero_vector w ws ∙ rw h (omega arith))

  pub runs-still : same v zero_vector ≡ true → runs (moving ws) ≡ runs (moving (w ∷ ws))
  unfolding without
  runs-still h = rw h refl

  pub runs-moving : same v zero_vector ≡ false → onto w (runs (moving ws)) ≡ runs (moving (w ∷ ws))
  unfolding without runs
  runs-moving h = rw h refl

pub onto-same : (a b : Weighted) → same a.vector b.vector ≡ true → record { vector = a.vector; weight = a.weight + b.weight } ∷ [] ≡ onto a (b ∷ [])
unfolding onto
onto-same a b h = rw h refl

pub onto-other : (a b : Weighted) (es : List Weighted) → same a.vector b.vector ≡ false → a ∷ (b ∷ es) ≡ onto a (b ∷ es)
unfolding onto
onto-other a b es h = rw h refl

-- Equal vectors side by side are one entry.
pub onto-both : (a b : Weighted) (es : List Weighted) → same a.vector b.vector ≡ true → onto (record { vector = a.vector; weight = a.weight + b.weight }) es ≡ onto a (onto b es)
unfolding onto
onto-both a b [] h = rw h refl
onto-both a b (e ∷ es) h =
    let q : same a.vector e.vector ≡ same b.vector e.vector = ap (λ (x : Vector). same x e.vector) (same-true a.vector b.vector h) in
    elim (cases_Bool (same b.vector e.vector)) [
      | inl t ↦ rw (q ∙ t, t, h) (ap (λ (n : ℕ). record { vector = a.vector; weight = n } ∷ es) (add_assoc a.weight b.weight e.weight))
      | inr f ↦ rw (q ∙ f, f, h) refl
    ]
