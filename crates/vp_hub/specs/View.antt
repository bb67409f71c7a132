-- The events that one connection sees, and the results that they determine: isolation of connections.
use Rattle.std.specs.Prelude.{◌≡◌, ◌==◌, ℕ, Bool, true, false, List, [], ◌∷◌, ◌++◌, Option, Some, None, Ok, Err}
use Rattle.std.specs.Prelude.{if◌then◌else◌}
use Rattle.vp_base.specs.declared.limits.Limits.{Limits}
use Rattle.vp_hub.specs.declared.event.Event.{Event}
use Rattle.vp_hub.specs.declared.event.Event.TheVariants.{Feed, End, Open, Bytes, Shut}
use Rattle.vp_hub.specs.Pages.{Streams}
use Rattle.vp_hub.specs.declared.connection.ConnectionState.{ConnectionState}
use Rattle.vp_hub.specs.declared.event.HubFault.TheVariants.{UnknownConn, AlreadyOpen, TooMany}
use Rattle.vp_hub.specs.declared.event.HubFault.TheVariants.{Memory}
use Rattle.vp_hub.specs.Hub.{Outcome, HubState, connection_state_of, fed, ended_source, at_name, Gets, no_bytes}
use Rattle.vp_hub.specs.Hub.{new_connection_state, IsStep}
use Rattle.vp_hub.specs.Hub.{initial_hub}

-- an event as one connection sees it; `Lost`: the hub has closed the connection because memory ran out
pub data Seen : Type 0 where
  Fed : (name piece : List ℕ) → Seen
  Over : (name : List ℕ) → Seen
  Opened : Seen
  Got : (piece : List ℕ) → Seen
  Gone : Seen
  Lost : Seen

-- memory ran out
abbrev pub is_memory : Outcome → Bool
is_memory (Err Memory) = true
is_memory _ = false

-- there are too many connections
abbrev pub is_too_many : Outcome → Bool
is_too_many (Err TooMany) = true
is_too_many _ = false

-- What connection c sees of an event, given its result. It doesn't see a piece of a stream, or an opening, for which
-- memory ran out, nor an opening that was refused with `TooMany`. If memory runs out for its bytes, it is closed.
abbrev pub seen_events : ℕ → Event → Outcome → List Seen
seen_events c (Feed name piece) o = if is_memory o then [] else Fed name piece ∷ []
seen_events c (End name) o = Over name ∷ []
seen_events c (Open d) o = if d == c then (if is_memory o then [] else if is_too_many o then [] else Opened
    ∷ []) else []
seen_events c (Bytes d piece) o = if d == c then (if is_memory o then Lost ∷ [] else Got piece ∷ []) else []
seen_events c (Shut d) o = if d == c then Gone ∷ [] else []

-- the view of connection c: all events that it sees
abbrev pub view_of : ℕ → List Event → List Outcome → List Seen
view_of c [] os = []
view_of c (e ∷ es) [] = []
view_of c (e ∷ es) (o ∷ os) = seen_events c e o ++ view_of c es os

-- the result of an event, if the connection sees it
abbrev pub told : List Seen → Outcome → List Outcome
told [] o = []
told (e ∷ es) o = o ∷ []

-- the results of the events that connection c sees
abbrev pub results_of : ℕ → List Event → List Outcome → List Outcome
results_of c [] os = []
results_of c (e ∷ es) [] = []
results_of c (e ∷ es) (o ∷ os) = told (seen_events c e o) o ++ results_of c es os

-- the state that a connection's results depend on: the streams, and its own state
pub record ConnectionView : Type 0 where
  pub streams : Streams
  pub state_of_connection : Option ConnectionState

-- the state for connection c
abbrev pub connection_view : ℕ → HubState → ConnectionView
connection_view c s = record { streams = s.streams; state_of_connection = connection_state_of c s.connections }

-- `Open` as the connection sees it
abbrev pub open_again : Option ConnectionState → Option ConnectionState × Outcome
open_again (Some state_of_connection) = (Some state_of_connection, Err AlreadyOpen)
open_again None = (Some new_connection_state, Ok no_bytes)

-- a piece of bytes as the connection sees it
abbrev pub AsksAgain : Streams → List ℕ → Option ConnectionState → Option ConnectionState × Outcome → Type 0
AsksAgain streams piece None r = r ≡ (None, Err UnknownConn)
AsksAgain streams piece (Some state_of_connection) r = (g : ConnectionState × Outcome)
    × Gets streams piece state_of_connection g × (r ≡ (Some g.0, g.1))

-- `Shut` as the connection sees it
abbrev pub removed_connection : Option ConnectionState → Option ConnectionState × Outcome
removed_connection None = (None, Err UnknownConn)
removed_connection (Some state_of_connection) = (None, Ok no_bytes)

-- a connection whose bytes memory ran out for
abbrev pub closed_by_refusal : Option ConnectionState → Option ConnectionState
closed_by_refusal None = None
closed_by_refusal (Some state_of_connection) = Some (record { pending = []; closed = true })

-- the state with these streams, and the answer
abbrev pub with_streams_of : ConnectionView → Streams × Outcome → ConnectionView × Outcome
with_streams_of v r = (record { streams = r.0; state_of_connection = v.state_of_connection }, r.1)

-- the state with this connection, and the answer
abbrev pub with_connection_state_of : ConnectionView → Option ConnectionState × Outcome → ConnectionView × Outcome
with_connection_state_of v r = (record { streams = v.streams; state_of_connection = r.0 }, r.1)

-- one event of a view: the state after it, and its result
abbrev pub See : Seen → ConnectionView → ConnectionView × Outcome → Type 0
See (Fed name piece) v r = r ≡ with_streams_of v (at_name (fed piece) name v.streams)
See (Over name) v r = r ≡ with_streams_of v (at_name ended_source name v.streams)
See Opened v r = r ≡ with_connection_state_of v (open_again v.state_of_connection)
See (Got piece) v r = AsksAgain v.streams piece v.state_of_connection (r.0.state_of_connection, r.1)
    × (r.0.streams ≡ v.streams)
See Gone v r = r ≡ with_connection_state_of v (removed_connection v.state_of_connection)
See Lost v r = r ≡ with_connection_state_of v (closed_by_refusal v.state_of_connection, Err Memory)

-- the events of a view lead from a to b, with these results
abbrev pub Leads : List Seen → ConnectionView → List Outcome → ConnectionView → Type 0
Leads [] a [] b = b ≡ a
Leads (e ∷ es) a (o ∷ os) b = (mid : ConnectionView) × See e a (mid, o) × Leads es mid os b
Leads [] a (o ∷ os) b = ⊥
Leads (e ∷ es) a [] b = ⊥

-- a run: each event with its result
abbrev pub IsRun : HubState → List Event → List Outcome → HubState → Type 0
IsRun old [] [] new = new ≡ old
IsRun old (e ∷ es) (o ∷ os) new = (mid : HubState) × IsStep old e o mid × IsRun mid es os new
IsRun old [] (o ∷ os) new = ⊥
IsRun old (e ∷ es) [] new = ⊥

-- two consecutive runs are one run
abbrev pub RunsAreJoined : Type 0
RunsAreJoined = (s mid new : HubState) (es fs : List Event) (os ps : List Outcome) → IsRun s es os mid
    → IsRun mid fs ps new
    → IsRun s (es ++ fs) (os ++ ps) new

-- each connection gets the results that its view determines
abbrev pub IsIsolated : HubState → List Event → List Outcome → HubState → Type 0
IsIsolated s es os new = (c : ℕ) → Leads (view_of c es os) (connection_view c s) (results_of c es os)
    (connection_view c new)

-- this holds for all runs
abbrev pub RunsAreIsolated : Type 0
RunsAreIsolated = (s new : HubState) (es : List Event) (os : List Outcome) → IsRun s es os new → IsIsolated s es os new

-- in two runs from hubs that are equal for connection c, equal views of c give equal results; the hubs show no WebP
-- files, for which the encoder may choose
abbrev pub AnswersAlike : Type 0
AnswersAlike = (c : ℕ) (s t : HubState) (es fs : List Event) (os ps : List Outcome) (new mid : HubState)
    → s.streams.webp ≡ false → IsRun s es os new → IsRun t fs ps mid → connection_view c s ≡ connection_view c t
    → view_of c es os ≡ view_of c fs ps
    → results_of c es os ≡ results_of c fs ps

-- the limits are equal, except for the number of cached pictures
pub record AreLimitsBesideCache (a b : Limits) : Type 0 where
  pub pixels : a.pixels ≡ b.pixels
  pub packet_bytes : a.packet_bytes ≡ b.packet_bytes
  pub packets : a.packets ≡ b.packets

-- two new hubs with the same names give equal results, whatever the number of pictures that each caches
abbrev pub NewHubsAnswerAlike : Type 0
NewHubsAnswerAlike = (names : List (List ℕ)) (a b : Limits) (c : ℕ) (es fs : List Event) (os ps : List Outcome)
    (new mid : HubState)
    → AreLimitsBesideCache a b → IsRun (initial_hub names a) es os new → IsRun (initial_hub names b) fs ps mid
    → view_of c es os ≡ view_of c fs ps
    → results_of c es os ≡ results_of c fs ps
