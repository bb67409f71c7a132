-- The connection of a number, after one was added, changed or removed.
use Rattle.std.proofs.Common.{◌≡◌, ◌==◌, ◌++◌, ℕ, List, [], ◌∷◌, Option, Some, None, cond, refl, arith, Bool, true, false, option_map}
use Rattle.std.proofs.lemmas.Bool.Decides.{nat_tests}
use Rattle.vp_serve.specs.Connection.{Connection}
use Rattle.vp_serve.specs.Connections.{connection_of, with_connection, without}

abbrev pub first_of : Option Connection → Option Connection → Option Connection
first_of None b = b
first_of (Some a) b = Some a

pub connection_of-push : (c : ℕ) (t : Connection) (xs : List Connection)
    → connection_of c (xs ++ t ∷ []) ≡ first_of (connection_of c xs) (cond (t.number == c) (Some t) None)
connection_of-push c t [] = refl
connection_of-push c t (x ∷ xs) = step (connection_of-push c t xs) (x.number == c)
  where
    step : (connection_of c (xs ++ t ∷ []) ≡ first_of (connection_of c xs) (cond (t.number == c) (Some t) None)) → (b : Bool)
        → cond b (Some x) (connection_of c (xs ++ t ∷ [])) ≡ first_of (cond b (Some x) (connection_of c xs)) (cond (t.number == c) (Some t) None)
    step e true = refl
    step e false = e

pub connection_of-with_connection : (c : ℕ) (t : Connection) (xs : List Connection) → (t.number == c) ≡ true → connection_of c (with_connection c t xs) ≡ option_map (λ _. t) (connection_of c xs)
connection_of-with_connection c t [] h = refl
connection_of-with_connection c t (x ∷ xs) h = grind (arith, nat_tests, h, connection_of-with_connection c t xs h)

pub connection_of_other-with_connection : (c d : ℕ) (t : Connection) (xs : List Connection) → (t.number == d) ≡ true → (d == c) ≡ false → connection_of c (with_connection d t xs) ≡ connection_of c xs
connection_of_other-with_connection c d t [] h k = refl
connection_of_other-with_connection c d t (x ∷ xs) h k = grind (arith, nat_tests, h, k, connection_of_other-with_connection c d t xs h k)

pub connection_of-without : (c : ℕ) (xs : List Connection) → connection_of c (without c xs) ≡ None
connection_of-without c [] = refl
connection_of-without c (x ∷ xs) = grind (arith, nat_tests, connection_of-without c xs)

pub connection_of_other-without : (c d : ℕ) (xs : List Connection) → (d == c) ≡ false → connection_of c (without d xs) ≡ connection_of c xs
connection_of_other-without c d [] h = refl
connection_of_other-without c d (x ∷ xs) h = grind (arith, nat_tests, h, connection_of_other-without c d xs h)
