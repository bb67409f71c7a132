-- Flags of probability 255 at the end of a row, passed over at once.
use Rattle.std.proofs.Common.{◌≡◌, ℕ, zero, suc, ◌+◌, ◌<◌, ◌≤◌, Bool, true, false, List, [], ◌∷◌, get_or, refl, sym, ap, ◌∙◌, arith}
use Rattle.std.specs.Prelude.{replicate, slice_index, slice_index_or, slice_set}
use Rattle.vp_bool.specs.Bools.{State, read, bools, after_bools}
use Rattle.vp_bool.specs.Reader.{bind, each}
use Rattle.vp_bool.proofs.ReaderLemmas.{each-more}
use Rattle.vp_head.specs.Rows.{renewed}
use Rattle.vp_head.specs.Probabilities.{entry_at}

set_self : (xs : List ℕ) (n : ℕ) → slice_set xs n (slice_index_or xs n 0) ≡ xs
set_self [] n = refl
set_self (x ∷ xs) zero = refl
set_self (x ∷ xs) (suc n) = ap (λ (l : List ℕ). x ∷ l) (set_self xs n)

front : List Bool → Bool
front [] = true
front (b ∷ bs) = b

behind : List Bool → List Bool
behind [] = []
behind (b ∷ bs) = bs

renewed_kept : (x : ℕ) (s : State) → (read 255 s).0 ≡ false → renewed 255 x s ≡ (x, (read 255 s).1)
unfolding renewed bind
renewed_kept x s h = rw h refl

kept_one : (n : ℕ) (table xs ys : List ℕ) (s t : State) → each 0 n (entry_at table) xs s ≡ (ys, t) → slice_index table n ≡ 255 → (read 255 t).0 ≡ false
    → each 0 (n + 1) (entry_at table) xs s ≡ (ys, (read 255 t).1)
kept_one n table xs ys s t h rare bit =
    let x : ℕ = slice_index_or ys n 0 in
    let one : entry_at table n x t ≡ (x, (read 255 t).1) = rw rare (renewed_kept x t bit) in
    let more = each-more 0 n (entry_at table) xs ys x s t (read 255 t).1 h (λ i. (sym one i).0) (λ i. (sym one i).1) in
    more ∙ ap (λ (l : List ℕ). (l, (read 255 t).1)) (set_self ys n)

pub tail_kept : (k n : ℕ) (table xs ys : List ℕ) (s t : State) → each 0 n (entry_at table) xs s ≡ (ys, t) → ((i : ℕ) → n ≤ i → i < n + k → slice_index table i ≡ 255)
    → bools (replicate k 255) t ≡ replicate k false → each 0 (n + k) (entry_at table) xs s ≡ (ys, after_bools (replicate k 255) t)
unfolding bools after_bools read front behind
tail_kept zero n table xs ys s t h rare bs = let none : n + 0 ≡ n = omega arith in rw none h
tail_kept (suc k) n table xs ys s t h rare bs =
    let bit : (read 255 t).0 ≡ false = ap front bs in
    let more = kept_one n table xs ys s t h (rare n (omega arith) (omega arith)) bit in
    let sum : n + suc k ≡ n + 1 + k = omega arith in
    rw sum (tail_kept k (n + 1) table xs ys s (read 255 t).1 more (λ i low high. rare i (omega arith) (omega arith)) (ap behind bs))

pub all_rare : (n i : ℕ) → i < n → ◌≡◌ {A = ℕ} (get_or (replicate n 255) i 0) 255
all_rare zero i h = absurd (omega arith)
all_rare (suc n) zero h = refl
all_rare (suc n) (suc i) h = all_rare n i (omega arith)
