-- A connection by its place.
use Rattle.std.proofs.Common.{suc, ◌+◌, Ok, not, ◌∙◌, sym, IfSome, ◌≡◌, ◌==◌, ℕ, List, [], ◌∷◌, Option, Some, None, length, get_or, set, cond, refl, ap, arith, Bool, true, false, nat_lt}
use Rattle.std.specs.List.{position, position_or_len}
use Rattle.std.proofs.lemmas.Bool.Decides.{nat_tests}
use Rattle.vp_hub.specs.declared.connection.ConnectionState.{ConnectionState}
use Rattle.vp_hub.specs.declared.connection.Connection.{Connection}
use Rattle.std.proofs.lemmas.List.Quantifiers.{position-Some}
use Rattle.std.proofs.lemmas.Bool.{eqb-true}
use Rattle.vp_hub.specs.Hub.{connection_state_of, with_connection_state, without_connection, shut, no_bytes, Outcome, IsPlaceOf}

abbrev pub is_of : ℕ → Connection → Bool
is_of c x = x.number == c

shift : (p n : ℕ) (a : Option ConnectionState) → cond (nat_lt (1 + p) (suc n)) a None ≡ cond (nat_lt p n) a None
shift p n a =
    let h : nat_lt (1 + p) (suc n) ≡ nat_lt p n = grind (arith, nat_tests) in
    ap (λ b. cond b a None) h

pub link_of-place : (c : ℕ) (xs : List Connection) (d : Connection)
    → connection_state_of c xs ≡ cond (nat_lt (position_or_len (is_of c) xs) (length xs)) (Some (get_or xs (position_or_len (is_of c) xs) d).state_of_connection) None
link_of-place c [] d = refl
link_of-place c (x ∷ xs) d = step (link_of-place c xs d) (is_of c x)
  where
    step : connection_state_of c xs ≡ cond (nat_lt (position_or_len (is_of c) xs) (length xs)) (Some (get_or xs (position_or_len (is_of c) xs) d).state_of_connection) None → (t : Bool) → cond t (Some x.state_of_connection) (connection_state_of c xs) ≡ cond (nat_lt (cond (not t) (1 + position_or_len (is_of c) xs) 0) (length (x ∷ xs))) (Some (get_or (x ∷ xs) (cond (not t) (1 + position_or_len (is_of c) xs) 0) d).state_of_connection) None
    step e true =
        let h : nat_lt 0 (suc (length xs)) ≡ true = grind (arith, nat_tests) in
        sym (ap (λ b. cond b (Some x.state_of_connection) None) h)
    step e false =
        let h : 1 + position_or_len (is_of c) xs ≡ suc (position_or_len (is_of c) xs) = omega arith in
        let g : get_or (x ∷ xs) (1 + position_or_len (is_of c) xs) d ≡ get_or xs (position_or_len (is_of c) xs) d = rw h refl in
        e ∙ sym (shift (position_or_len (is_of c) xs) (length xs) (Some (get_or xs (position_or_len (is_of c) xs) d).state_of_connection))
        ∙ ap (λ y. cond (nat_lt (1 + position_or_len (is_of c) xs) (suc (length xs))) (Some y.state_of_connection) None) (sym g)

pub with_link-place : (c : ℕ) (state_of_connection : ConnectionState) (xs : List Connection)
    → with_connection_state c state_of_connection xs ≡ set xs (position_or_len (is_of c) xs) (record { number = c; state_of_connection = state_of_connection })
with_link-place c state_of_connection [] = refl
with_link-place c state_of_connection (x ∷ xs) = step (with_link-place c state_of_connection xs) (is_of c x)
  where
    step : with_connection_state c state_of_connection xs ≡ set xs (position_or_len (is_of c) xs) (record { number = c; state_of_connection = state_of_connection }) → (t : Bool) → cond t (record { number = c; state_of_connection = state_of_connection } ∷ xs) (x ∷ with_connection_state c state_of_connection xs) ≡ set (x ∷ xs) (cond (not t) (1 + position_or_len (is_of c) xs) 0) (record { number = c; state_of_connection = state_of_connection })
    step e true = refl
    step e false =
        let h : 1 + position_or_len (is_of c) xs ≡ suc (position_or_len (is_of c) xs) = omega arith in
        rw h (ap (λ ys. x ∷ ys) e)

chosen : (b : Bool) (i p : ℕ) → Some i ≡ cond b (Some p) None → (p ≡ i) × (b ≡ true)
chosen true i p h = (cc, refl)
chosen false i p h = cc

not_chosen : (b : Bool) (p : ℕ) → None ≡ cond b (Some p) None → b ≡ false
not_chosen true p h = cc
not_chosen false p h = refl

pub place-none : (c : ℕ) (xs : List Connection) → None ≡ position (is_of c) xs → connection_state_of c xs ≡ None
place-none c [] h = refl
place-none c (x ∷ xs) h =
    let e = not_chosen (nat_lt (position_or_len (is_of c) (x ∷ xs)) (length (x ∷ xs))) (position_or_len (is_of c) (x ∷ xs)) h in
    link_of-place c (x ∷ xs) x ∙ rw e refl

pub place-some : (c : ℕ) (xs : List Connection) (i : ℕ) → Some i ≡ position (is_of c) xs → IsPlaceOf c xs i
place-some c xs i h =
    let e = chosen (nat_lt (position_or_len (is_of c) xs) (length xs)) i (position_or_len (is_of c) xs) h in
    record {
      there = (position-Some (is_of c) xs i (record { number = 0; state_of_connection = record { pending = []; closed = false } }) (sym h)).0;
      number = λ d. eqb-true (get_or xs i d).number c (position-Some (is_of c) xs i d (sym h)).1;
      state_of_connection = λ d. link_of-place c xs d ∙ rw (e.1, e.0) refl;
      set = λ state_of_connection. sym (with_link-place c state_of_connection xs ∙ rw e.0 refl);
    }

pub place-of : (c : ℕ) (xs : List Connection) (r : Option ℕ) → r ≡ position (is_of c) xs → IfSome r (IsPlaceOf c xs)
place-of c xs None h = tt
place-of c xs (Some i) h = place-some c xs i h

pub shut-some : (c : ℕ) (xs ys : List Connection) (state_of_connection : ConnectionState) → connection_state_of c ys ≡ Some state_of_connection → ys ≡ xs
    → ◌≡◌ {A = List Connection × Outcome} (without_connection c xs, Ok no_bytes) (shut c xs (connection_state_of c xs))
shut-some c xs ys state_of_connection h e = sym (ap (shut c xs) (sym (ap (connection_state_of c) e) ∙ h))
