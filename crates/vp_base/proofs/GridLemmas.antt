-- A grid's entries after one of them is set.
use Rattle.std.proofs.Common.{◌≡◌, ◌∙◌, ℕ, ◌+◌, ◌*◌, ◌%◌, ◌/◌, ◌<◌, ◌≤◌, ◌≢◌, List, [], ◌∷◌, length, Some, refl, ap, ap₂, sym, arith, inl, inr, length-set}
use Rattle.std.specs.Option.{unwrap_or}
use Rattle.std.proofs.Math.Nat.{div-lt_iff_lt-mul, mul_comm, div-add-mod}
use Rattle.std.specs.Prelude.{zero, suc, Option, slice_get, slice_set, nat_lt}
use Rattle.std.proofs.lemmas.List.{get_or-set_same}
use Rattle.std.proofs.lemmas.Option.{slice_get-get_or}
use Rattle.std.proofs.lemmas.Nat.{row_fits, div-mul-add, mod-mul-add}
use Rattle.std.proofs.lemmas.Bool.{ltb-true, lt-ltb, cases_Bool}
use Rattle.vp_base.specs.declared.place.Place.{Place}
use Rattle.vp_base.specs.Grid.{Grid, Has, entry, changed, with_entry}

get-set_same : {A : Type 0} (xs : List A) (i : ℕ) (a : A) → i < length xs → slice_get (slice_set xs i a) i ≡ Some a
get-set_same xs i a h = slice_get-get_or (slice_set xs i a) i a (rw (length-set xs i a) h) ∙ ap Some (get_or-set_same xs i a a h)

get-set_other : {A : Type 0} (xs : List A) (i j : ℕ) (a : A) → j ≢ i → slice_get (slice_set xs i a) j ≡ slice_get xs j
get-set_other [] i j a apart = refl
get-set_other (x ∷ xs) zero zero a apart = absurd (apart refl)
get-set_other (x ∷ xs) zero (suc j) a apart = refl
get-set_other (x ∷ xs) (suc i) zero a apart = refl
get-set_other (x ∷ xs) (suc i) (suc j) a apart = get-set_other xs i j a (λ e. apart (ap suc e))

-- each place has a number of its own
same_place : (n : ℕ) (p q : Place) → p.column < n → q.column < n → q.row * n + q.column ≡ p.row * n + p.column → q ≡ p
same_place n p q pb qb e =
    let c : q.column ≡ p.column = sym (mod-mul-add q.row n q.column qb) ∙ ap (λ (k : ℕ). k % n) e ∙ mod-mul-add p.row n p.column pb in
    let r : q.row ≡ p.row = sym (div-mul-add q.row n q.column qb) ∙ ap (λ (k : ℕ). k / n) e ∙ div-mul-add p.row n p.column pb in
    λ j. record { column = c j; row = r j }

pub entry-here : {A : Type 0} (g : Grid A) (p : Place) (a : A) → length g.entries ≡ g.rows * g.columns → Has g p → entry (with_entry g p a) p ≡ Some a
unfolding entry changed
entry-here g p a whole h =
    let inside : p.row * g.columns + p.column < length g.entries =
    let fits : p.row * g.columns + g.columns ≤ g.rows * g.columns = row_fits p.row g.columns g.rows g.columns h.row (omega arith) in
    let column = h.column in omega arith in
    rw (lt-ltb p.column g.columns h.column) (get-set_same g.entries (p.row * g.columns + p.column) a inside)

pub entry-elsewhere : {A : Type 0} (g : Grid A) (p : Place) (a : A) (q : Place) → Has g p → q ≢ p → entry (with_entry g p a) q ≡ entry g q
unfolding entry changed
entry-elsewhere g p a q h apart = elim (cases_Bool (nat_lt q.column g.columns)) [
  | inl t ↦ rw t (get-set_other g.entries (p.row * g.columns + p.column) (q.row * g.columns + q.column) a (λ e. apart (same_place g.columns p q h.column (ltb-true _ _ t) e)))
  | inr f ↦ rw f refl
]

-- ---- a grid is its entries

list_same : {A : Type 0} (xs ys : List A) → length xs ≡ length ys → ((k : ℕ) → k < length xs → slice_get xs k ≡ slice_get ys k) → xs ≡ ys
list_same [] [] e f = refl
list_same [] (y ∷ ys) e f = absurd (let no : 0 ≡ suc (length ys) = e in omega arith)
list_same (x ∷ xs) [] e f = absurd (let no : suc (length xs) ≡ 0 = e in omega arith)
list_same {A} (x ∷ xs) (y ∷ ys) e f =
    let n : length xs ≡ length ys = let m : suc (length xs) ≡ suc (length ys) = e in omega arith in
    let head : x ≡ y = ap (λ (o : Option A). unwrap_or o x) (f 0 (omega arith)) in
    ap₂ (λ (a : A) (rest : List A). a ∷ rest) head (list_same xs ys n (λ k h. f (suc k) (let m : suc k < suc (length xs) = omega arith in m)))

pub number_fits : (n m : ℕ) (p : Place) → p.column < n → p.row < m → p.row * n + p.column < m * n
number_fits n m p c r = let fits : p.row * n + n ≤ m * n = row_fits p.row n m n r (omega arith) in omega arith

some_columns : (n m k : ℕ) → k < m * n → 0 < n
some_columns zero m k h = absurd (let no : k < m * 0 = h in omega arith)
some_columns (suc n) m k h = omega arith

row_within : (n m k : ℕ) → 0 < n → k < m * n → k / n < m
row_within n m k some h = (div-lt_iff_lt-mul {k = n} {x = k} {y = m} some).1 h

number_of : (n k : ℕ) → k / n * n + k % n ≡ k
number_of n k = ap (λ (j : ℕ). j + k % n) (mul_comm (k / n) n) ∙ div-add-mod k n

pub entry-inside : {A : Type 0} (g : Grid A) (p : Place) → p.column < g.columns → entry g p ≡ slice_get g.entries (p.row * g.columns + p.column)
unfolding entry
entry-inside g p h = rw (lt-ltb p.column g.columns h) refl
