-- The length of each vector of an array.
use Rattle.std.proofs.Common.{◌≡◌, ℕ, ◌<◌, List, [], ◌∷◌, length, get_or, subst, sym}
use Rattle.std.proofs.lemmas.Simd.{Each1-get_or}
use lib.Lanes.{Each1}
use mir.Syntax.{Width}
use mir.Val.{Val}
use denote.Laws.{Is}
use denote.Shadow.{shadow}
use denote.Array.{Array, each}
use borrow.Kind.Array.{e_int}

each_long : (w : Width) (m : ℕ) (xs : List (List ℕ)) (us : List Val) → shadow (each (List ℕ) (Array (e_int w).ty m).own_val xs us) → Each1 (λ (l : List ℕ). length l ≡ m) xs
each_long w m [] us s = tt
each_long w m (x ∷ xs) [] s = absurd s
each_long w m (x ∷ xs) (u ∷ us) s = (s.0.1.0.1, each_long w m xs us s.1)

pub long_rows : (w : Width) (m n : ℕ) (xs : List (List ℕ)) (vs : List Val) → Is (Array (Array (e_int w).ty m) n) xs vs → (j : ℕ) → j < n → length (get_or xs j []) ≡ m
long_rows w m n xs vs p j h = Each1-get_or (λ (l : List ℕ). length l ≡ m) xs j [] (subst (λ k. j < k) (sym p.1.0.1) h) (each_long w m xs p.0 p.1.1)
