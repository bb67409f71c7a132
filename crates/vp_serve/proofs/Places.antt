-- A connection by its place.
use Rattle.std.proofs.Common.{suc, ◌+◌, not, ◌∙◌, sym, IfSome, ◌≡◌, ◌==◌, ℕ, List, [], ◌∷◌, Option, Some, None, length, get_or, set, cond, refl, ap, arith, Bool, true, false, nat_lt}
use Rattle.std.specs.List.{position, position_or_len}
use Rattle.std.proofs.lemmas.Bool.Decides.{nat_tests}
use Rattle.std.proofs.lemmas.List.Quantifiers.{position-Some}
use Rattle.vp_serve.specs.Connection.{Connection}
use Rattle.vp_serve.specs.Connections.{connection_of, with_connection, new_connection, IsConnectionPlace}

abbrev pub is_of : ℕ → Connection → Bool
is_of c x = x.number == c

shift : (p n : ℕ) (a : Option Connection) → cond (nat_lt (1 + p) (suc n)) a None ≡ cond (nat_lt p n) a None
shift p n a =
    let h : nat_lt (1 + p) (suc n) ≡ nat_lt p n = grind (arith, nat_tests) in
    ap (λ b. cond b a None) h

pub connection_of-place : (c : ℕ) (xs : List Connection) (d : Connection)
    → connection_of c xs ≡ cond (nat_lt (position_or_len (is_of c) xs) (length xs)) (Some (get_or xs (position_or_len (is_of c) xs) d)) None
connection_of-place c [] d = refl
connection_of-place c (x ∷ xs) d = step (connection_of-place c xs d) (is_of c x)
  where
    step : connection_of c xs ≡ cond (nat_lt (position_or_len (is_of c) xs) (length xs)) (Some (get_or xs (position_or_len (is_of c) xs) d)) None → (t : Bool) → cond t (Some x) (connection_of c xs) ≡ cond (nat_lt (cond (not t) (1 + position_or_len (is_of c) xs) 0) (length (x ∷ xs))) (Some (get_or (x ∷ xs) (cond (not t) (1 + position_or_len (is_of c) xs) 0) d)) None
    step e true =
        let h : nat_lt 0 (suc (length xs)) ≡ true = grind (arith, nat_tests) in
        sym (ap (λ b. cond b (Some x) None) h)
    step e false =
        let h : 1 + position_or_len (is_of c) xs ≡ suc (position_or_len (is_of c) xs) = omega arith in
        let g : get_or (x ∷ xs) (1 + position_or_len (is_of c) xs) d ≡ get_or xs (position_or_len (is_of c) xs) d = rw h refl in
        e ∙ sym (shift (position_or_len (is_of c) xs) (length xs) (Some (get_or xs (position_or_len (is_of c) xs) d)))
        ∙ ap (λ y. cond (nat_lt (1 + position_or_len (is_of c) xs) (suc (length xs))) (Some y) None) (sym g)

pub with_connection-place : (c : ℕ) (t : Connection) (xs : List Connection) → with_connection c t xs ≡ set xs (position_or_len (is_of c) xs) t
with_connection-place c t [] = refl
with_connection-place c t (x ∷ xs) = step (with_connection-place c t xs) (is_of c x)
  where
    step : with_connection c t xs ≡ set xs (position_or_len (is_of c) xs) t → (b : Bool) → cond b (t ∷ xs) (x ∷ with_connection c t xs) ≡ set (x ∷ xs) (cond (not b) (1 + position_or_len (is_of c) xs) 0) t
    step e true = refl
    step e false =
        let h : 1 + position_or_len (is_of c) xs ≡ suc (position_or_len (is_of c) xs) = omega arith in
        rw h (ap (λ ys. x ∷ ys) e)

chosen : (b : Bool) (i p : ℕ) → Some i ≡ cond b (Some p) None → (p ≡ i) × (b ≡ true)
chosen true i p h = (cc, refl)
chosen false i p h = cc

not_chosen : (b : Bool) (p : ℕ) → None ≡ cond b (Some p) None → b ≡ false
not_chosen true p h = cc
not_chosen false p h = refl

pub place-none : (c : ℕ) (xs : List Connection) → None ≡ position (is_of c) xs → connection_of c xs ≡ None
place-none c [] h = refl
place-none c (x ∷ xs) h =
    let e = not_chosen (nat_lt (position_or_len (is_of c) (x ∷ xs)) (length (x ∷ xs))) (position_or_len (is_of c) (x ∷ xs)) h in
    connection_of-place c (x ∷ xs) x ∙ rw e refl

pub place-some : (c : ℕ) (xs : List Connection) (i : ℕ) → Some i ≡ position (is_of c) xs → IsConnectionPlace c xs i
place-some c xs i h =
    let e = chosen (nat_lt (position_or_len (is_of c) xs) (length xs)) i (position_or_len (is_of c) xs) h in
    record {
      there = (position-Some (is_of c) xs i (new_connection 0 0) (sym h)).0;
      connection = λ d. connection_of-place c xs d ∙ rw (e.1, e.0) refl;
      set = λ t. sym (with_connection-place c t xs ∙ rw e.0 refl);
    }

pub place-of : (c : ℕ) (xs : List Connection) (r : Option ℕ) → r ≡ position (is_of c) xs → IfSome r (IsConnectionPlace c xs)
place-of c xs None h = tt
place-of c xs (Some i) h = place-some c xs i h
