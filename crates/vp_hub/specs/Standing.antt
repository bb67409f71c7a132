-- The connections of a hub, determined by the history of events and results alone, and the limit of 64.
use Rattle.std.specs.Prelude.{◌≡◌, ◌==◌, ◌≤◌, ◌↔◌, ℕ, not, Bool, false, List, [], ◌∷◌, ◌++◌, length, map, filter, Ok}
use Rattle.std.specs.Prelude.{Err}
use Rattle.std.specs.List.{list_any}
use Rattle.vp_hub.specs.declared.event.Event.{Event}
use Rattle.vp_hub.specs.declared.event.Event.TheVariants.{Feed, End, Open, Bytes, Shut}
use Rattle.vp_hub.specs.declared.event.HubFault.TheVariants.{TooMany}
use Rattle.vp_hub.specs.declared.connection.Connection.{Connection}
use Rattle.vp_hub.specs.Hub.{Outcome, HubState, IsStep}
use Rattle.vp_hub.specs.View.{IsRun}

-- the numbers of connections
abbrev pub connection_numbers : List Connection → List ℕ
connection_numbers connections = map (λ x. x.number) connections

-- an accepted `Open` adds the number; a `Shut` removes it
abbrev pub open_after : List ℕ → Event → Outcome → List ℕ
open_after cs (Open c) (Ok reply) = cs ++ c ∷ []
open_after cs (Open c) (Err fault) = cs
open_after cs (Shut c) o = filter (λ x. not (x == c)) cs
open_after cs (Bytes c piece) o = cs
open_after cs (Feed name piece) o = cs
open_after cs (End name) o = cs

-- the numbers after a history, given those before it
abbrev pub standing : List ℕ → List Event → List Outcome → List ℕ
standing cs [] os = cs
standing cs (e ∷ es) [] = cs
standing cs (e ∷ es) (o ∷ os) = standing (open_after cs e o) es os

-- the number is in the list
abbrev pub stands : ℕ → List ℕ → Bool
stands c cs = list_any (λ x. x == c) cs

-- there are 64 others
abbrev pub IsFull : ℕ → List ℕ → Type 0
IsFull c cs = (stands c cs ≡ false) × (64 ≤ length cs)

-- a connection is there from its accepted `Open` to its `Shut`, and no longer
abbrev pub StandsToShut : Type 0
StandsToShut = (s new : HubState) (es : List Event) (os : List Outcome) → IsRun s es os new
    → connection_numbers new.connections ≡ standing (connection_numbers s.connections) es os

-- after a history, an `Open` is refused with `TooMany` exactly if there are 64 others by that history
abbrev pub IsTooManyByHistory : Type 0
IsTooManyByHistory = (s mid new : HubState) (es : List Event) (os : List Outcome) (c : ℕ) (o : Outcome)
    → IsRun s es os mid → IsStep mid (Open c) o new
    → (o ≡ Err TooMany) ↔ IsFull c (standing (connection_numbers s.connections) es os)
