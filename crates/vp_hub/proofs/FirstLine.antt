-- The first line of some bytes.
use Rattle.std.proofs.Common.{zero, suc, ◌<◌, ◌+◌, ◌≡◌, ◌==◌, ◌≤◌, ◌∷◌, ◌∙◌, [], ℕ, List, Bool, true, false, not, Some, None, cond, nat_lt, refl, sym, subst, length, take, arith}
use Rattle.std.specs.List.{position, position_or_len}
use Rattle.std.proofs.lemmas.Bool.Decides.{nat_tests}
use Rattle.std.proofs.lemmas.List.{take_all}
use Rattle.std.specs.Prelude.{slice_get}
use Rattle.std.proofs.lemmas.Bool.{both_ways, eq-eqb}
use Rattle.std.proofs.lemmas.Option.{same_Some}
use Rattle.vp_hub.specs.Lines.{IsLine, LinesEndOnce}

abbrev pub is_line_feed : ℕ → Bool
is_line_feed b = b == 10

line_more : (x : ℕ) (l : List ℕ) → (x == 10) ≡ false → IsLine l → IsLine (x ∷ l)
line_more x [] h k = tt
line_more x (c ∷ bs) h k = (h, k)

pub line_of : (xs : List ℕ) → IsLine (take (suc (position_or_len is_line_feed xs)) xs)
line_of [] = tt
line_of (x ∷ xs) = at (line_of xs) (is_line_feed x) refl
  where
    at : IsLine (take (suc (position_or_len is_line_feed xs)) xs) → (t : Bool) → is_line_feed x ≡ t
        → IsLine (x ∷ take (cond (not t) (1 + position_or_len is_line_feed xs) 0) xs)
    at more true e = tt
    at more false e =
        let same : 1 + position_or_len is_line_feed xs ≡ suc (position_or_len is_line_feed xs) = omega arith in
        line_more x (take (1 + position_or_len is_line_feed xs) xs) e (subst (λ n. IsLine (take n xs)) (sym same) more)

chosen : (b : Bool) (i p : ℕ) → Some i ≡ cond b (Some p) None → p ≡ i
chosen true i p h = cc
chosen false i p h = cc

not_chosen : (b : Bool) (p : ℕ) → None ≡ cond b (Some p) None → b ≡ false
not_chosen true p h = cc
not_chosen false p h = refl

pub line_some : (xs : List ℕ) (i : ℕ) → Some i ≡ position is_line_feed xs → IsLine (take (i + 1) xs)
line_some xs i h =
    let p = position_or_len is_line_feed xs in
    let e : p ≡ i = chosen (nat_lt p (length xs)) i p h in
    let same : suc p ≡ i + 1 = omega (arith, e) in
    subst (λ n. IsLine (take n xs)) same (line_of xs)

pub line_none : (xs : List ℕ) → None ≡ position is_line_feed xs → IsLine (take (length xs) xs)
line_none xs h =
    let p = position_or_len is_line_feed xs in
    let e : nat_lt p (length xs) ≡ false = not_chosen (nat_lt p (length xs)) p h in
    let le : length xs ≤ suc p = grind (arith, nat_tests, e) in
    subst IsLine (take_all (suc p) xs le ∙ sym (take_all (length xs) xs (omega arith))) (line_of xs)

pub lines_end_once : LinesEndOnce
lines_end_once [] i is lt e = absurd (omega (arith, lt))
lines_end_once (b ∷ []) i is lt e = absurd (omega (arith, lt))
lines_end_once (b ∷ c ∷ bs) zero is lt e = both_ways (b == 10) is.0 (eq-eqb b 10 (same_Some b 10 e))
lines_end_once (b ∷ c ∷ bs) (suc i) is lt e = lines_end_once (c ∷ bs) i is.1 (omega (arith, lt)) e
