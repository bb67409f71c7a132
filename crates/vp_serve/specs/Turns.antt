-- What a turn of the server does, and when the loop waits.
use Rattle.std.specs.Prelude.{◌≡◌, ◌==◌, ◌≤◌, ◌<◌, ◌+◌, ◌⊎◌, ◌∷◌, [], ℕ, Bool, true, false, List, Option, Some}
use Rattle.std.specs.Prelude.{None, is_some, Ok, Err, flat_map, if◌then◌else◌}
use Rattle.std.specs.List.{list_any}
use Rattle.vp_hub.specs.Hub.{Outcome}
use Rattle.vp_serve.specs.declared.connection.NextAction.{NextAction}
use Rattle.vp_serve.specs.declared.connection.NextAction.TheVariants.{Send, Submit, Receive, Close}
use Rattle.vp_serve.specs.Connection.{Connection}
use Rattle.vp_serve.specs.Connections.{connection_of, next_action, is_nil}
use Rattle.vp_serve.specs.ServerLoop.{LoopState, IsTrace, Action, Accepted, Rejected, Received, Submitted, Sent, Closed}
use Rattle.vp_serve.specs.Readiness.{Readiness, IsReadyAt}
use Rattle.vp_serve.specs.Transfer.{Transfer, Logs}
use Rattle.vp_serve.specs.Transport.{ContinuesLoop, transfers_of, ended_names}

-- ---- what an action is

-- a reply is made if there are bytes to be sent
abbrev pub reply_count : Outcome → ℕ
reply_count (Ok reply) = if is_nil reply.bytes then 0 else 1
reply_count (Err fault) = 0

-- how many replies an action makes for connection c
abbrev pub replies_in : ℕ → Action → ℕ
replies_in c (Submitted d now line o) = if d == c then reply_count o else 0
replies_in c _ = 0

-- how many replies a trace makes for connection c
abbrev pub replies_made : ℕ → List Action → ℕ
replies_made c [] = 0
replies_made c (x ∷ xs) = replies_in c x + replies_made c xs

-- if an action has a time, it is this one
abbrev pub IsAt : ℕ → Action → Type 0
IsAt now (Accepted d time) = time ≡ now
IsAt now (Submitted d time line o) = time ≡ now
IsAt now (Sent d time bytes) = time ≡ now
IsAt now (Closed d time reason o) = time ≡ now
IsAt now _ = Unit {0}

-- an action reads from connection c, hands a line of it to the hub, writes to it or closes it, at a time
abbrev pub IsOwn : ℕ → ℕ → Action → Type 0
IsOwn c now (Received d bytes) = d ≡ c
IsOwn c now (Submitted d time line o) = (d ≡ c) × (time ≡ now)
IsOwn c now (Sent d time bytes) = (d ≡ c) × (time ≡ now)
IsOwn c now (Closed d time reason o) = (d ≡ c) × (time ≡ now)
IsOwn c now _ = ⊥

-- an action is of connection c
abbrev pub is_of : ℕ → Action → Bool
is_of c (Accepted d now) = d == c
is_of c (Rejected d fault) = d == c
is_of c (Received d bytes) = d == c
is_of c (Submitted d now line o) = d == c
is_of c (Sent d now bytes) = d == c
is_of c (Closed d now reason o) = d == c
is_of c _ = false

-- ---- traces

-- all actions are of one kind
abbrev pub AreAll : (Action → Type 0) → List Action → Type 0
AreAll P [] = Unit {0}
AreAll P (x ∷ xs) = P x × AreAll P xs

-- something happens
abbrev pub has_actions : List Action → Bool
has_actions [] = false
has_actions (x ∷ xs) = true

-- the server waits for nothing: it hands bytes of a connection to the hub, or closes it
abbrev pub is_due_action : NextAction → Bool
is_due_action Submit = true
is_due_action Close = true
is_due_action _ = false

abbrev pub is_due : Connection → Bool
is_due t = is_due_action (next_action t)

-- connection c is open, and due
abbrev pub IsDueAt : ℕ → LoopState → Type 0
IsDueAt c d = (t : Connection) × (connection_of c d.connections ≡ Some t) × (is_due t ≡ true)

-- One connection is attended: the server performs a trace of actions of it alone, now, which make at most one reply.
-- Just its transfers are logged. It has moved if there is an action.
pub record AttendsOne (c now : ℕ) (moved : Bool) (old new : LoopState)
    (before after : Option (List Transfer)) : Type 0 where
  pub trace : List Action
  pub is_trace : IsTrace old trace new
  pub logs : Logs before after (flat_map transfers_of trace)
  pub follows : flat_map ended_names trace ≡ []
  pub own : AreAll (IsOwn c now) trace
  pub fair : replies_made c trace ≤ 1
  pub moves : has_actions trace ≡ moved

-- The trace of a turn: at most one reply is made for each connection, all happens now, and each connection that was due
-- has had an action.
pub record IsTurn (now : ℕ) (old : LoopState) (trace : List Action) (new : LoopState) : Type 0 where
  pub is_trace : IsTrace old trace new
  pub fair : (c : ℕ) → replies_made c trace ≤ 1
  pub at : AreAll (IsAt now) trace
  pub served : (c : ℕ) → IsDueAt c old → list_any (is_of c) trace ≡ true

-- The server takes a turn, and just its transfers are logged. It has moved if there is an action. Each connection that
-- is ready for its next action after the turn has had an action in it, so none that is ready is passed over. Each one
-- that was accepted before the turn and has an action in it was ready for its next action when the turn began.
pub record TakesTurn (now : ℕ) (moved : Bool) (old new : LoopState) (before after : Option (List Transfer))
    (first last : ℕ → Readiness) : Type 0 where
  pub does : ContinuesLoop old new before after
  pub turn : IsTurn now old does.trace new
  pub moves : has_actions does.trace ≡ moved
  pub attended : (c : ℕ) → IsReadyAt c last new → list_any (is_of c) does.trace ≡ true
  pub only_ready : (c : ℕ) → c < old.next → list_any (is_of c) does.trace ≡ true → IsReadyAt c first old

-- a connection that waits to be read from, and may be, has had an action in a turn; so has one to be written to
abbrev pub ReadyAreAttended : Type 0
ReadyAreAttended = (now : ℕ) (moved : Bool) (old new : LoopState) (before after : Option (List Transfer))
    (first last : ℕ → Readiness) (taken : TakesTurn now moved old new before after first last) (c : ℕ) (t : Connection)
    → connection_of c new.connections ≡ Some t
    → ((next_action t ≡ Receive) × ((last c).read ≡ true)) ⊎ ((next_action t ≡ Send) × ((last c).write ≡ true))
    → list_any (is_of c) taken.does.trace ≡ true

-- one that was accepted before a turn and waited for its peer has an action in it only if the transport called it ready
-- for a read, or for a write, when the turn began
abbrev pub OnlyReadyAreAttended : Type 0
OnlyReadyAreAttended = (now : ℕ) (moved : Bool) (old new : LoopState) (before after : Option (List Transfer))
    (first last : ℕ → Readiness) (taken : TakesTurn now moved old new before after first last) (c : ℕ) (t : Connection)
    → c < old.next → connection_of c old.connections ≡ Some t → list_any (is_of c) taken.does.trace ≡ true
    → (next_action t ≡ Receive → (first c).read ≡ true) × (next_action t ≡ Send → (first c).write ≡ true)

-- ---- waiting

-- which open connection has the smallest number that is at least this one
abbrev pub IsNextOpen : ℕ → List Connection → Option ℕ → Type 0
IsNextOpen from xs None = (c : ℕ) → from ≤ c → connection_of c xs ≡ None
IsNextOpen from xs (Some n) = (from ≤ n) × (is_some (connection_of n xs) ≡ true)
    × ((c : ℕ) → from ≤ c → c < n → connection_of c xs ≡ None)
