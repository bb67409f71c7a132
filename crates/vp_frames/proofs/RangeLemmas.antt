-- Parts of lists, from one place to another.
use Rattle.std.proofs.Common.{◌≡◌, ℕ, zero, suc, ◌+◌, ◌-◌, ◌<◌, ◌≤◌, List, [], ◌∷◌, ◌++◌, length, take, drop, Some, refl, sym, ap, ◌∙◌, arith}
use Rattle.std.specs.Prelude.{slice_get, slice_range}
use Rattle.std.proofs.Math.Seq.{take-add}
use Rattle.std.proofs.lemmas.Option.{same_Some, none-some}
use Rattle.std.proofs.lemmas.List.{take_all, length-drop, length-take-le, take-append-drop}

get_past : {X : Type 0} (xs : List X) (k i : ℕ) → slice_get (drop k xs) i ≡ slice_get xs (k + i)
get_past xs zero i = let e : i ≡ 0 + i = omega arith in ap (λ n. slice_get xs n) e
get_past [] (suc k) i = refl
get_past (x ∷ xs) (suc k) i =
    let e : suc (k + i) ≡ suc k + i = omega arith in
    get_past xs k i ∙ ap (λ n. slice_get (x ∷ xs) n) e

pub there : {X : Type 0} (xs : List X) (n : ℕ) → n < length xs → (x : X) × (slice_get xs n ≡ Some x)
there [] n lt = absurd (omega arith)
there (x ∷ xs) zero lt = (x, refl)
there (x ∷ xs) (suc n) lt = there xs n (omega arith)

take_one : {X : Type 0} (xs : List X) (k : ℕ) (x : X) → slice_get xs k ≡ Some x → take (suc k) xs ≡ take k xs ++ x ∷ []
take_one [] k x e = absurd (none-some x e)
take_one (y ∷ xs) zero x e = ap (λ z. z ∷ []) (same_Some y x e)
take_one (y ∷ xs) (suc k) x e = ap (λ zs. y ∷ zs) (take_one xs k x e)

pub range_more : {X : Type 0} (xs : List X) (f n : ℕ) (x : X) → f ≤ n → slice_get xs n ≡ Some x → slice_range xs f (n + 1) ≡ slice_range xs f n ++ x ∷ []
range_more xs f n x le e =
    let one : n + 1 - f ≡ suc (n - f) = omega arith in
    let at : f + (n - f) ≡ n = omega arith in
    ap (λ m. take m (drop f xs)) one ∙ take_one (drop f xs) (n - f) x (get_past xs f (n - f) ∙ (ap (λ m. slice_get xs m) at ∙ e))

pub range_none : {X : Type 0} (xs : List X) (f : ℕ) → slice_range xs f f ≡ []
range_none xs f = let none : f - f ≡ 0 = omega arith in ap (λ m. take m (drop f xs)) none

pub range_front : {X : Type 0} (xs : List X) (f m e : ℕ) → f ≤ m → m ≤ e → (rest : List X) × (slice_range xs f e ≡ slice_range xs f m ++ rest)
range_front xs f m e low high =
    let both : e - f ≡ (m - f) + (e - m) = omega arith in
    (take (e - m) (drop (m - f) (drop f xs)), ap (λ k. take k (drop f xs)) both ∙ take-add (m - f) (e - m) (drop f xs))

pub range_rest : {X : Type 0} (xs : List X) (f n : ℕ) → length xs ≤ n → slice_range xs f n ≡ drop f xs
range_rest xs f n past = take_all (n - f) (drop f xs) (omega (arith, length-drop f xs))

-- places past the end give the same part
pub range_past : {X : Type 0} (xs : List X) (f n e : ℕ) → length xs ≤ n → length xs ≤ e → slice_range xs f n ≡ slice_range xs f e
range_past xs f n e low high = range_rest xs f n low ∙ sym (range_rest xs f e high)

pub range_all : {X : Type 0} (xs : List X) (f e : ℕ) → f ≡ 0 → length xs ≤ e → slice_range xs f e ≡ xs
range_all xs f e none past = range_rest xs f e past ∙ ap (λ k. drop k xs) none

pub length-range : {X : Type 0} (xs : List X) (f n : ℕ) → f ≤ n → n ≤ length xs → length (slice_range xs f n) ≡ n - f
length-range xs f n low high = length-take-le (n - f) (drop f xs) (omega (arith, length-drop f xs))

-- a part stands between two others
pub range_inside : {X : Type 0} (xs : List X) (f e : ℕ) → (before behind : List X) × (xs ≡ before ++ (slice_range xs f e ++ behind))
range_inside xs f e = (
  take f xs,
  drop (e - f) (drop f xs),
  sym (ap (λ ys. take f xs ++ ys) (take-append-drop (e - f) (drop f xs)) ∙ take-append-drop f xs),
)

get_take : {X : Type 0} (m k : ℕ) (l : List X) → k < m → slice_get (take m l) k ≡ slice_get l k
get_take zero k l h = absurd (omega (arith, h))
get_take (suc m) k [] h = refl
get_take (suc m) zero (x ∷ l) h = refl
get_take (suc m) (suc k) (x ∷ l) h = get_take m k l (omega (arith, h))

pub get_range : {X : Type 0} (xs : List X) (f e i : ℕ) → f + i < e → slice_get (slice_range xs f e) i ≡ slice_get xs (f + i)
get_range xs f e i lt = get_take (e - f) i (drop f xs) (omega (arith, lt)) ∙ get_past xs f i
