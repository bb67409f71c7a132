-- Each search and each refinement has a best vector.
use Rattle.std.proofs.Common.{◌≡◌, ℕ, zero, suc, ◌*◌, ◌<◌, ◌≤◌, ◌⊎◌, pos, refl, sym, subst, arith, inl, inr}
use Rattle.std.proofs.lemmas.Int.{ints, by_lt_z}
use Rattle.std.proofs.lemmas.Bool.{cases_lt, cases_order}
use Rattle.vp_search.specs.declared.vector.WholeVector.{WholeVector}
use Rattle.vp_search.specs.declared.vector.QuarterVector.{QuarterVector}
use Rattle.vp_search.specs.Vectors.{vector_length, quarters}
use Rattle.vp_search.specs.FirstLeast.{IsFirstLeast}
use Rattle.vp_search.specs.Least.{IsNoWorse, IsLeast}
use Rattle.vp_search.specs.Refined.{neighbour, IsRefined}
use Rattle.vp_search.specs.Window.{vector_at}
use Rattle.vp_search.proofs.OrderLemmas.{along, index, near_at, vector_is, less_cost, less_size, less_row, less_column}

-- one of two vectors precedes or equals the other
either_way : (a : ℕ) (v : WholeVector) (b : ℕ) (w : WholeVector) → IsNoWorse a v b w ⊎ IsNoWorse b w a v
either_way a v b w = elim (cases_order a b) [
  | inl e ↦ elim (cases_order (vector_length v) (vector_length w)) [
    | inl s ↦ by_lt_z v.row w.row (λ l. inl (less_row a v b w e s l))
        (λ g. by_lt_z w.row v.row (λ l. inr (less_row b w a v (sym e) (sym s) l))
        (λ h. by_lt_z v.column w.column
        (λ l. inl (less_column a v b w e s (omega (arith, ints)) (omega (arith, ints))))
        (λ l. inr (less_column b w a v (sym e) (sym s) (omega (arith, ints)) l))))
    | inr (inl l) ↦ inl (less_size a v b w e l)
    | inr (inr l) ↦ inr (less_size b w a v (sym e) l)
  ]
  | inr (inl l) ↦ inl (less_cost a v b w l)
  | inr (inr l) ↦ inr (less_cost b w a v l)
]

-- the best of the first n + 1 numbers, by an order that puts one of two before the other
module _ (P : ℕ → ℕ → Type 0) (either : (i k : ℕ) → P i k ⊎ P k i) (chain : (i j k : ℕ) → P i j → P j k → P i k) where
  record Best (n : ℕ) : Type 0 where
    number : ℕ
    within : number ≤ n
    best : (k : ℕ) → k ≤ n → P number k

  itself : (i : ℕ) → P i i
  itself i = elim (either i i) [ inl p ↦ p | inr p ↦ p ]

  best_of : (n : ℕ) → Best n
  best_of zero = record { number = 0; within = omega arith; best = λ k h. let e : 0 ≡ k = omega arith in subst (P 0) e (itself 0) }
  best_of (suc n) =
      let b = best_of n in
      let and_next : (i : ℕ) → ((k : ℕ) → k ≤ n → P i k) → P i (suc n) → (k : ℕ) → k ≤ suc n → P i k =
      λ i before next k h. elim (cases_lt n k) [
        | inl last ↦ (let e : suc n ≡ k = omega arith in subst (P i) e next)
        | inr is ↦ before k is
      ] in
      elim (either b.number (suc n)) [
        | inl kept ↦ record { number = b.number; within = omega arith; best = and_next b.number b.best kept }
        | inr new ↦ record { number = suc n; within = omega arith; best = and_next (suc n) (λ k h. chain (suc n) b.number k new (b.best k h)) (itself (suc n)) }
      ]

-- the best vector within a range
pub record BestVector (range : ℕ) (cost : WholeVector → ℕ) : Type 0 where
  pub vector : WholeVector
  pub is : IsLeast range cost vector

pub best_vector : (range : ℕ) (cost : WholeVector → ℕ) → BestVector range cost
best_vector range cost =
    let best_in = λ (at : ℕ → WholeVector). best_of (λ i k. IsNoWorse (cost (at i)) (at i) (cost (at k)) (at k))
    (λ i k. either_way (cost (at i)) (at i) (cost (at k)) (at k))
    (λ i j k. along (cost (at i)) (at i) (cost (at j)) (at j) (cost (at k)) (at k)) (2 * range) in
    let row = λ (i : ℕ). best_in (vector_at range i) in
    let first = λ (i : ℕ). vector_at range i (row i).number in
    let top = best_in first in
    record {
      vector = first top.number;
      is = record {
        near = near_at range top.number (row top.number).number top.within (row top.number).within;
        least = λ v near.
            let y = index range v.row near.0 in
            let x = index range v.column near.1 in
            let e = vector_is (vector_at range y.at x.at) v (sym y.is) (sym x.is) in
            subst (λ (u : WholeVector). IsNoWorse (cost (first top.number)) (first top.number) (cost u) u) e
            (along (cost (first top.number)) (first top.number) (cost (first y.at)) (first y.at)
            (cost (vector_at range y.at x.at)) (vector_at range y.at x.at) (top.best y.at y.within) ((row y.at).best x.at x.within));
      };
    }

-- the first of the least of nine numbers
record First (f : ℕ → ℕ) : Type 0 where
  number : ℕ
  is : IsFirstLeast 9 f number

first_of : (f : ℕ → ℕ) → First f
first_of f =
    let P : ℕ → ℕ → Type 0 = λ i k. (f i ≤ f k) × (k < i → f i < f k) in
    let either : (i k : ℕ) → P i k ⊎ P k i =
    λ i k. elim (cases_lt i k) [
      | inl before ↦ elim (cases_lt (f k) (f i)) [ inl less ↦ inr (omega arith, λ h. less) | inr more ↦ inl (more, λ h. absurd (omega arith)) ]
      | inr after ↦ elim (cases_lt (f i) (f k)) [ inl less ↦ inl (omega arith, λ h. less) | inr more ↦ inr (more, λ h. absurd (omega arith)) ]
    ] in
    let chain : (i j k : ℕ) → P i j → P j k → P i k =
    λ i j k p q. let b = q.0 in (
      omega arith,
      λ h. elim (cases_lt k j) [
        | inl before ↦ (let less = q.1 before in omega arith)
        | inr after ↦ (let less = p.1 (omega arith) in omega arith)
      ],
    ) in
    let b = best_of P either chain 8 in
    record { number = b.number; is = record { within = omega arith; least = λ k h. (b.best k (omega arith)).0; first = λ k h. (b.best k (omega arith)).1 h } }

-- the refinement of a vector
pub record BestRefined (cost : QuarterVector → ℕ) (centre : WholeVector) : Type 0 where
  pub vector : QuarterVector
  pub is : IsRefined cost centre vector

pub best_refined : (cost : QuarterVector → ℕ) (centre : WholeVector) → BestRefined cost centre
best_refined cost centre =
    let one = first_of (λ k. cost (neighbour (quarters centre) (pos 2) k)) in
    let halfway : QuarterVector = neighbour (quarters centre) (pos 2) one.number in
    let two = first_of (λ k. cost (neighbour halfway (pos 1) k)) in
    record {
      vector = neighbour halfway (pos 1) two.number;
      is = record {
        halfway = halfway;
        first = record { number = one.number; first = one.is; is = refl };
        second = record { number = two.number; first = two.is; is = refl };
      };
    }
