-- Connections by their numbers.
use Rattle.std.specs.Prelude.{ℕ, ◌==◌, ◌<◌, ◌≤◌, ◌≡◌, not, Bool, true, false, List, [], ◌∷◌, length, take, filter}
use Rattle.std.specs.Prelude.{Option, Some, None, Ok, Err, slice_index_or, slice_set, if◌then◌else◌}
use Rattle.vp_hub.specs.Hub.{Outcome}
use Rattle.vp_serve.specs.Connection.{Connection}
use Rattle.vp_serve.specs.declared.connection.NextAction.{NextAction}
use Rattle.vp_serve.specs.declared.connection.NextAction.TheVariants.{Send, Submit, Receive, Close}

abbrev pub new_connection : ℕ → ℕ → Connection
new_connection c now =
    record { number = c; unsubmitted = []; unsent = []; closing = false; fault = None; last_active = now }

abbrev pub is_nil : List ℕ → Bool
is_nil [] = true
is_nil (b ∷ bs) = false

-- a list begins with this one
abbrev pub IsPrefix : List ℕ → List ℕ → Type 0
IsPrefix p xs = (length p ≤ length xs) × (p ≡ take (length p) xs)

abbrev pub after_reply : List ℕ → Bool → ℕ → Connection → Connection
after_reply bytes close now t =
    record t { unsent = bytes; closing = close; last_active = (if is_nil bytes then t.last_active else now) }

-- after a line was handed to the hub: a reply is to be written, a fault closes the connection
abbrev pub after_outcome : Outcome → List ℕ → ℕ → Connection → Connection
after_outcome (Ok r) rest now t = after_reply r.bytes r.close now (record t { unsubmitted = rest })
after_outcome (Err f) rest now t = record t { unsubmitted = rest; unsent = []; closing = true; fault = Some f }

-- A reply is written before anything else. Then the connection is closed, if that reply closes it. Then the bytes that
-- were read are handed to the hub. Only after all of them more is read (back-pressure)
abbrev pub next_action : Connection → NextAction
next_action t =
    if is_nil t.unsent then (if t.closing then Close else (if is_nil t.unsubmitted then Receive else Submit)) else Send

-- the connection of a number
abbrev pub connection_of : ℕ → List Connection → Option Connection
connection_of c [] = None
connection_of c (x ∷ xs) = if x.number == c then Some x else connection_of c xs

-- another one in its place
abbrev pub with_connection : ℕ → Connection → List Connection → List Connection
with_connection c t [] = []
with_connection c t (x ∷ xs) = if x.number == c then t ∷ xs else x ∷ with_connection c t xs

-- all others
abbrev pub without : ℕ → List Connection → List Connection
without c xs = filter (λ x. not (x.number == c)) xs

abbrev pub unsent_by : Option Connection → List ℕ
unsent_by None = []
unsent_by (Some t) = t.unsent

-- the bytes of its reply that are not written yet
abbrev pub unsent_of : ℕ → List Connection → List ℕ
unsent_of c xs = unsent_by (connection_of c xs)

-- the connection of a number is at an index
pub record IsConnectionPlace (c : ℕ) (xs : List Connection) (i : ℕ) : Type 0 where
  pub there : i < length xs
  pub connection : (d : Connection) → connection_of c xs ≡ Some (slice_index_or xs i d)
  pub set : (t : Connection) → slice_set xs i t ≡ with_connection c t xs
