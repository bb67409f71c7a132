-- The first items of a list, and others for what stands behind them.
use Rattle.std.proofs.Common.{◌≡◌, ℕ, zero, suc, ◌+◌, ◌<◌, ◌≤◌, replicate, List, [], ◌∷◌, length, get_or, refl, ap, arith, add-one}
use Rattle.std.specs.Prelude.{slice_set}
use Rattle.vp_tokens.specs.Written.{padded_prefix}

front-set : {X : Type 0} (d : X) (n : ℕ) (xs : List X) → n < length xs → slice_set (padded_prefix d n xs) n (get_or xs n d) ≡ padded_prefix d (suc n) xs
front-set d n [] h = absurd (omega arith)
front-set d zero (x ∷ xs) h = refl
front-set {X = X} d (suc n) (x ∷ xs) h = ap (λ (l : List X). x ∷ l) (front-set d n xs (omega arith))

pub front-more : {X : Type 0} (d : X) (n : ℕ) (xs : List X) → n < length xs → slice_set (padded_prefix d n xs) n (get_or xs n d) ≡ padded_prefix d (n + 1) xs
front-more d n xs h = rw add-one (front-set d n xs h)

pub front-all : {X : Type 0} (d : X) (n : ℕ) (xs : List X) → ((k : ℕ) → n ≤ k → k < length xs → get_or xs k d ≡ d) → padded_prefix d n xs ≡ xs
front-all d n [] h = refl
front-all d zero (x ∷ xs) h =
    let first : x ≡ d = h 0 (omega arith) (omega arith) in
    rw (first, front-all d zero xs (λ k a b. h (suc k) (omega arith) (omega arith))) refl
front-all {X = X} d (suc n) (x ∷ xs) h = ap (λ (l : List X). x ∷ l) (front-all d n xs (λ k a b. h (suc k) (omega arith) (omega arith)))

pub front-none : {X : Type 0} (d : X) (n : ℕ) (xs : List X) → ((k : ℕ) → k < n → get_or xs k d ≡ d) → padded_prefix d n xs ≡ replicate (length xs) d
front-none d n [] h = refl
front-none {X = X} d zero (x ∷ xs) h = ap (λ (l : List X). d ∷ l) (front-none d zero xs (λ k a. absurd (omega arith)))
front-none {X = X} d (suc n) (x ∷ xs) h =
    let first : x ≡ d = h 0 (omega arith) in
    rw first (ap (λ (l : List X). d ∷ l) (front-none d n xs (λ k a. h (suc k) (omega arith))))

pub get_or-front : {X : Type 0} (d : X) (n : ℕ) (xs : List X) (k : ℕ) → k < n → get_or (padded_prefix d n xs) k d ≡ get_or xs k d
get_or-front d n [] k h = refl
get_or-front d zero (x ∷ xs) k h = absurd (omega arith)
get_or-front d (suc n) (x ∷ xs) zero h = refl
get_or-front d (suc n) (x ∷ xs) (suc k) h = get_or-front d n xs k (omega arith)
