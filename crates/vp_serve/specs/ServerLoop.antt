-- The server as a machine: its state, its actions, and what each of them changes.
use Rattle.std.specs.Prelude.{◌≡◌, ◌≢◌, ◌≤◌, ◌+◌, ◌⊎◌, ◌==◌, ◌||◌, ◌&&◌, ◌++◌, ◌∷◌, [], ℕ, List, length, not, nat_lt}
use Rattle.std.specs.Prelude.{Bool, false, Option, Some, None, Ok, Err, if◌then◌else◌}
use Rattle.vp_hub.specs.declared.event.Event.{Event}
use Rattle.vp_hub.specs.declared.event.Event.TheVariants.{Feed, End, Open, Bytes, Shut}
use Rattle.vp_hub.specs.declared.event.HubFault.{HubFault}
use Rattle.vp_hub.specs.declared.event.HubFault.TheVariants.{Memory}
use Rattle.vp_hub.specs.Hub.{Outcome, HubState, IsStep, no_bytes}
use Rattle.vp_hub.specs.View.{is_memory}
use Rattle.vp_serve.specs.declared.connection.NextAction.TheVariants.{Submit, Receive, Send}
use Rattle.vp_serve.specs.declared.options.FilePiece.{FilePiece}
use Rattle.vp_serve.specs.declared.options.ServeOptions.{ServeOptions}
use Rattle.vp_serve.specs.declared.reason.CloseReason.{CloseReason}
use Rattle.vp_hub.specs.Lines.{IsLine}
use Rattle.vp_serve.specs.Connection.{Connection}
use Rattle.vp_serve.specs.Connections.{connection_of, with_connection, without, new_connection, after_outcome}
use Rattle.vp_serve.specs.Connections.{next_action}
use Rattle.vp_serve.specs.Reasons.{IsReason}

-- its limits, the hub, the open connections, the number of the next one, and the piece of a file that is to be fed
pub record LoopState : Type 0 where
  pub options : ServeOptions
  pub hub : HubState
  pub connections : List Connection
  pub next : ℕ
  pub waiting : Option FilePiece

abbrev pub initial : ServeOptions → HubState → LoopState
initial options hub = record { options = options; hub = hub; connections = []; next = 0; waiting = None }

-- no connection is accepted
abbrev pub is_full : LoopState → Bool
is_full d =
    not (nat_lt (length d.connections) d.options.max_connections) || not (nat_lt d.next d.options.total_connections)

-- all connections were accepted, and none is open
abbrev pub is_over : LoopState → Bool
is_over d = not (nat_lt d.next d.options.total_connections) && (length d.connections == 0)

-- each open connection waits for its peer: to take bytes of a reply, or to send more
abbrev pub AwaitsPeers : LoopState → Type 0
AwaitsPeers d = (c : ℕ) (t : Connection) → connection_of c d.connections ≡ Some t
    → (next_action t ≡ Send) ⊎ (next_action t ≡ Receive)

pub data Action : Type 0 where
  -- connection c is accepted
  Accepted : (c now : ℕ) → Action
  -- connection c is accepted and closed at once, since the hub or memory refuses it
  Rejected : (c : ℕ) (fault : HubFault) → Action
  -- bytes are read from connection c
  Received : (c : ℕ) (bytes : List ℕ) → Action
  -- a line of the bytes of connection c is handed to the hub, with its outcome
  Submitted : (c now : ℕ) (line : List ℕ) (o : Outcome) → Action
  -- bytes of a reply are written to connection c
  Sent : (c now : ℕ) (bytes : List ℕ) → Action
  -- connection c is closed, here and in the hub
  Closed : (c now : ℕ) (reason : CloseReason) (o : Outcome) → Action
  -- a piece is read from a file
  Grown : (piece : FilePiece) → Action
  -- the piece that waits is fed to its stream, with the outcome
  Fed : (piece : FilePiece) (o : Outcome) → Action
  -- the end of a stream is reported to the hub, with the outcome
  Ended : (name : List ℕ) (o : Outcome) → Action
  -- the server waits for the peers of its connections, or looks which are ready if it is busy, and the clock says this
  Waited : (busy : Bool) (clock : ℕ) → Action

-- a piece that memory was refused for is kept
abbrev pub after_feed : FilePiece → Outcome → Option FilePiece
after_feed piece o = if is_memory o then Some piece else None

-- what an action changes, and when it happens
abbrev pub IsTransition : LoopState → Action → LoopState → Type 0
IsTransition old (Accepted c now) new =
    (c ≡ old.next) × (is_full old ≡ false) × IsStep old.hub (Open c) (Ok no_bytes) new.hub
    × (new ≡ record old { hub = new.hub; connections = old.connections ++ new_connection c now ∷ []; next = c + 1 })
IsTransition old (Rejected c fault) new =
    (c ≡ old.next) × (is_full old ≡ false) × (fault ≢ Memory → IsStep old.hub (Open c) (Err fault) old.hub)
    × (new ≡ record old { next = c + 1 })
IsTransition old (Received c bytes) new =
    (t : Connection) × (connection_of c old.connections ≡ Some t) × (next_action t ≡ Receive) × (length bytes ≤ 4096)
    × (new ≡ record old { connections = with_connection c (record t { unsubmitted = bytes }) old.connections })
IsTransition old (Submitted c now line o) new =
    (t : Connection) × (rest : List ℕ) × (connection_of c old.connections ≡ Some t) × (next_action t ≡ Submit)
    × (t.unsubmitted ≡ line ++ rest) × (IsLine line × (line ≢ [])) × IsStep old.hub (Bytes c line) o new.hub
    × (new ≡ record old { hub = new.hub; connections = with_connection c (after_outcome o rest now t) old.connections })
IsTransition old (Sent c now bytes) new =
    (t : Connection) × (rest : List ℕ) × (connection_of c old.connections ≡ Some t) × (next_action t ≡ Send)
    × (t.unsent ≡ bytes ++ rest)
    × (new ≡ record old {
      connections = with_connection c (record t { unsent = rest; last_active = now }) old.connections;
    })
IsTransition old (Closed c now reason o) new =
    (t : Connection) × (connection_of c old.connections ≡ Some t) × IsReason old.options now t reason
    × IsStep old.hub (Shut c) o new.hub × (new ≡ record old { hub = new.hub; connections = without c old.connections })
IsTransition old (Grown piece) new = (old.waiting ≡ None) × (new ≡ record old { waiting = Some piece })
IsTransition old (Fed piece o) new =
    (old.waiting ≡ Some piece) × IsStep old.hub (Feed piece.name piece.bytes) o new.hub
    × (new ≡ record old { hub = new.hub; waiting = after_feed piece o })
IsTransition old (Ended name o) new =
    (old.waiting ≡ None) × IsStep old.hub (End name) o new.hub × (new ≡ record old { hub = new.hub })
IsTransition old (Waited busy clock) new = (busy ≡ false → AwaitsPeers old) × (new ≡ old)

-- one action after another
abbrev pub IsTrace : LoopState → List Action → LoopState → Type 0
IsTrace old [] new = new ≡ old
IsTrace old (a ∷ more) new = (mid : LoopState) × IsTransition old a mid × IsTrace mid more new

-- ---- the events of the hub and their outcomes

abbrev pub events_of : Action → List Event
events_of (Accepted c now) = Open c ∷ []
events_of (Rejected c fault) = []
events_of (Received c bytes) = []
events_of (Submitted c now line o) = Bytes c line ∷ []
events_of (Sent c now bytes) = []
events_of (Closed c now reason o) = Shut c ∷ []
events_of (Grown piece) = []
events_of (Fed piece o) = Feed piece.name piece.bytes ∷ []
events_of (Ended name o) = End name ∷ []
events_of (Waited busy clock) = []

abbrev pub action_outcomes : Action → List Outcome
action_outcomes (Accepted c now) = Ok no_bytes ∷ []
action_outcomes (Rejected c fault) = []
action_outcomes (Received c bytes) = []
action_outcomes (Submitted c now line o) = o ∷ []
action_outcomes (Sent c now bytes) = []
action_outcomes (Closed c now reason o) = o ∷ []
action_outcomes (Grown piece) = []
action_outcomes (Fed piece o) = o ∷ []
action_outcomes (Ended name o) = o ∷ []
action_outcomes (Waited busy clock) = []
