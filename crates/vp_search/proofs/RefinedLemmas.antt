-- Lemmas on the neighbours of a vector.
use Rattle.std.proofs.Common.{◌≡◌, ℕ, ℤ, zero, suc, ◌<◌, ◌≤◌, ◌+ℤ◌, ◌-ℤ◌, List, get_or, refl, sym, ap, subst, inl, inr, pos, ◌∙◌, arith}
use Rattle.std.specs.Prelude.{unsigned_abs}
use Rattle.std.proofs.lemmas.Int.{ints}
use Rattle.std.proofs.lemmas.Bool.{cases_order}
use Rattle.vp_search.specs.declared.vector.WholeVector.{WholeVector}
use Rattle.vp_search.specs.declared.vector.QuarterVector.{QuarterVector}
use Rattle.vp_search.specs.FirstLeast.{IsFirstLeast}
use Rattle.vp_search.specs.Vectors.{quarters}
use Rattle.vp_search.specs.Refined.{candidates_around, neighbour, IsBestOf, IsRefined}

-- the first of the least by another function with the same numbers
pub first_same : (n : ℕ) (f g : ℕ → ℕ) (best : ℕ) → ((k : ℕ) → k < n → f k ≡ g k) → IsFirstLeast n f best → IsFirstLeast n g best
first_same n f g best same p =
    let w = p.within in
    let b = same best w in
    record {
      within = w;
      least = λ k h. let l = p.least k h in let e = same k h in omega arith;
      first = λ k h. let l = p.first k h in let e = same k (omega arith) in omega arith;
    }

-- a fact of nine places
pub below_nine : (P : ℕ → Type 0) → P 0 → P 1 → P 2 → P 3 → P 4 → P 5 → P 6 → P 7 → P 8 → (k : ℕ) → k < 9 → P k
below_nine P a b c d e f g h i zero l = a
below_nine P a b c d e f g h i (suc zero) l = b
below_nine P a b c d e f g h i (suc (suc zero)) l = c
below_nine P a b c d e f g h i (suc (suc (suc zero))) l = d
below_nine P a b c d e f g h i (suc (suc (suc (suc zero)))) l = e
below_nine P a b c d e f g h i (suc (suc (suc (suc (suc zero))))) l = f
below_nine P a b c d e f g h i (suc (suc (suc (suc (suc (suc zero)))))) l = g
below_nine P a b c d e f g h i (suc (suc (suc (suc (suc (suc (suc zero))))))) l = h
below_nine P a b c d e f g h i (suc (suc (suc (suc (suc (suc (suc (suc zero)))))))) l = i
below_nine P a b c d e f g h i (suc (suc (suc (suc (suc (suc (suc (suc (suc k))))))))) l = absurd (omega arith)

pub row_beside : (centre : QuarterVector) (d : ℤ) (k : ℕ) → k < 9 → unsigned_abs ((neighbour centre d k).row -ℤ centre.row) ≤ unsigned_abs d
row_beside centre d k h =
    let x : ℤ = centre.row in
    let level : unsigned_abs (x -ℤ x) ≤ unsigned_abs d = omega (arith, ints) in
    let above : unsigned_abs (x -ℤ d -ℤ x) ≤ unsigned_abs d = omega (arith, ints) in
    let below : unsigned_abs (x +ℤ d -ℤ x) ≤ unsigned_abs d = omega (arith, ints) in
    below_nine (λ k. unsigned_abs ((neighbour centre d k).row -ℤ x) ≤ unsigned_abs d) level above above above level level below below below k h

-- the default of a read inside does not matter
pub listed : (centre : QuarterVector) (d : ℤ) (vectors : List QuarterVector) (z : QuarterVector) (k : ℕ) → vectors ≡ candidates_around centre d → k < 9 → get_or vectors k z ≡ neighbour centre d k
listed centre d vectors z k e h =
    ap (λ (l : List QuarterVector). get_or l k z) e ∙ below_nine (λ k. get_or (candidates_around centre d) k z ≡ neighbour centre d k) refl refl refl refl refl refl refl refl refl k h

-- the best by a cost that is the same everywhere
pub best_same : (f g : QuarterVector → ℕ) (centre : QuarterVector) (d : ℤ) (best : QuarterVector) → ((v : QuarterVector) → f v ≡ g v) → IsBestOf f centre d best → IsBestOf g centre d best
best_same f g centre d best same p = record {
  number = p.number;
  first = first_same 9 (λ k. f (neighbour centre d k)) (λ k. g (neighbour centre d k)) p.number (λ k h. same (neighbour centre d k)) p.first;
  is = p.is;
}

-- .. and a refinement by it
pub refined_same : (f g : QuarterVector → ℕ) (centre : WholeVector) (best : QuarterVector) → ((v : QuarterVector) → f v ≡ g v) → IsRefined f centre best → IsRefined g centre best
refined_same f g centre best same p = record {
  halfway = p.halfway;
  first = best_same f g (quarters centre) (pos 2) p.halfway same p.first;
  second = best_same f g p.halfway (pos 1) best same p.second;
}

-- ---- one answer

pub first_is_one : (n : ℕ) (f : ℕ → ℕ) (a b : ℕ) → IsFirstLeast n f a → IsFirstLeast n f b → a ≡ b
first_is_one n f a b p q = elim (cases_order a b) [
  | inl same ↦ same
  | inr (inl less) ↦ (let h = q.first a less in let k = p.least b q.within in absurd (omega arith))
  | inr (inr less) ↦ (let h = p.first b less in let k = q.least a p.within in absurd (omega arith))
]

best_is_one : (cost : QuarterVector → ℕ) (centre : QuarterVector) (d : ℤ) (v w : QuarterVector) → IsBestOf cost centre d v → IsBestOf cost centre d w → v ≡ w
best_is_one cost centre d v w p q =
    p.is ∙ ap (neighbour centre d) (first_is_one 9 (λ k. cost (neighbour centre d k)) p.number q.number p.first q.first) ∙ sym q.is

-- a refinement has one answer
pub refined_is_one : (cost : QuarterVector → ℕ) (centre : WholeVector) (v w : QuarterVector) → IsRefined cost centre v → IsRefined cost centre w → v ≡ w
refined_is_one cost centre v w p q =
    let same : p.halfway ≡ q.halfway = best_is_one cost (quarters centre) (pos 2) p.halfway q.halfway p.first q.first in
    best_is_one cost q.halfway (pos 1) v w (subst (λ (u : QuarterVector). IsBestOf cost u (pos 1) v) same p.second) q.second

-- a centre that costs nothing is the best of its neighbours
pub unmoved : (cost : QuarterVector → ℕ) (centre : QuarterVector) (d : ℤ) → cost centre ≡ 0 → IsBestOf cost centre d centre
unmoved cost centre d free = record {
  number = 0;
  first = record { within = omega arith; least = λ k h. omega arith; first = λ k h. absurd (omega arith) };
  is = refl;
}
