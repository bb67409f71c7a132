-- The sockets of the open connections, and what they were found ready for.
use Rattle.std.specs.Prelude.{◌≡◌, ◌≢◌, ◌==◌, ◌||◌, ℕ, Bool, false, List, [], ◌∷◌, if◌then◌else◌}
use Rattle.std.specs.List.{list_any}
use Rattle.vp_serve.specs.Readiness.{Readiness}

-- the number of its connection, and what it was found ready for
pub record OpenSocket : Type 0 where
  pub number : ℕ
  pub ready : Readiness

-- what connection c was found ready for; without a socket it is ready for nothing
abbrev pub readiness_of : List OpenSocket → ℕ → Readiness
readiness_of [] c = record { read = false; write = false }
readiness_of (x ∷ xs) c = if x.number == c then x.ready else readiness_of xs c

-- there is a socket of connection c
abbrev pub has_socket : ℕ → List OpenSocket → Bool
has_socket c xs = list_any (λ x. x.number == c) xs

-- each connection has one socket at most
abbrev pub AreDistinct : List OpenSocket → Type 0
AreDistinct [] = Unit {0}
AreDistinct (x ∷ xs) = (has_socket x.number xs ≡ false) × AreDistinct xs

-- every other connection has a socket as before, ready for what it was ready for
abbrev pub OthersStay : ℕ → List OpenSocket → List OpenSocket → Type 0
OthersStay number old new =
    (c : ℕ) → c ≢ number → (has_socket c new ≡ has_socket c old) × (readiness_of new c ≡ readiness_of old c)

-- the same connections have a socket
abbrev pub AreAsOpen : List OpenSocket → List OpenSocket → Type 0
AreAsOpen old new = (c : ℕ) → has_socket c new ≡ has_socket c old

-- ready for a read or a write too, where these say so
abbrev pub gains : Readiness → Bool → Bool → Readiness
gains ready read write = record { read = ready.read || read; write = ready.write || write }
