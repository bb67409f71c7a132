-- What is kept of a connection, after a connection came, changed or went.
use Rattle.std.proofs.Common.{◌≡◌, ◌==◌, ◌++◌, ℕ, List, [], ◌∷◌, Option, Some, None, cond, refl, arith, Bool, true, false, option_map}
use Rattle.std.proofs.lemmas.Bool.Decides.{nat_tests}
use Rattle.vp_hub.specs.declared.connection.ConnectionState.{ConnectionState}
use Rattle.vp_hub.specs.declared.connection.Connection.{Connection}
use Rattle.vp_hub.specs.Hub.{connection_state_of, with_connection_state, without_connection}

abbrev pub first_of : Option ConnectionState → Option ConnectionState → Option ConnectionState
first_of None b = b
first_of (Some a) b = Some a

pub link_of-push : (c d : ℕ) (state_of_connection : ConnectionState) (xs : List Connection)
    → connection_state_of c (xs ++ record { number = d; state_of_connection = state_of_connection } ∷ []) ≡ first_of (connection_state_of c xs) (cond (d == c) (Some state_of_connection) None)
link_of-push c d state_of_connection [] = refl
link_of-push c d state_of_connection (x ∷ xs) = step (link_of-push c d state_of_connection xs) (x.number == c)
  where
    step : (connection_state_of c (xs ++ record { number = d; state_of_connection = state_of_connection } ∷ []) ≡ first_of (connection_state_of c xs) (cond (d == c) (Some state_of_connection) None)) → (t : Bool)
        → cond t (Some x.state_of_connection) (connection_state_of c (xs ++ record { number = d; state_of_connection = state_of_connection } ∷ [])) ≡ first_of (cond t (Some x.state_of_connection) (connection_state_of c xs)) (cond (d == c) (Some state_of_connection) None)
    step e true = refl
    step e false = e

pub link_of-with_link : (c : ℕ) (state_of_connection : ConnectionState) (xs : List Connection) → connection_state_of c (with_connection_state c state_of_connection xs) ≡ option_map (λ _. state_of_connection) (connection_state_of c xs)
link_of-with_link c state_of_connection [] = refl
link_of-with_link c state_of_connection (x ∷ xs) = grind (arith, nat_tests, link_of-with_link c state_of_connection xs)

pub link_of_other-with_link : (c d : ℕ) (state_of_connection : ConnectionState) (xs : List Connection) → (d == c) ≡ false → connection_state_of c (with_connection_state d state_of_connection xs) ≡ connection_state_of c xs
link_of_other-with_link c d state_of_connection [] h = refl
link_of_other-with_link c d state_of_connection (x ∷ xs) h = grind (arith, nat_tests, h, link_of_other-with_link c d state_of_connection xs h)

pub link_of-without : (c : ℕ) (xs : List Connection) → connection_state_of c (without_connection c xs) ≡ None
link_of-without c [] = refl
link_of-without c (x ∷ xs) = grind (arith, nat_tests, link_of-without c xs)

pub link_of_other-without : (c d : ℕ) (xs : List Connection) → (d == c) ≡ false → connection_state_of c (without_connection d xs) ≡ connection_state_of c xs
link_of_other-without c d [] h = refl
link_of_other-without c d (x ∷ xs) h = grind (arith, nat_tests, h, link_of_other-without c d xs h)
