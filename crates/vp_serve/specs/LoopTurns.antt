-- The loop: turn after turn, with waits, idle timeouts and files that grow.
use Rattle.std.specs.Prelude.{◌≡◌, ◌⊎◌, ◌||◌, ◌++◌, ◌∷◌, ◌^◌, ◌-◌, [], ℕ, Bool, true, false, List, Option, length}
use Rattle.std.specs.Prelude.{◌≤◌, ◌<◌, ◌+◌, Some, flat_map, is_some, not, slice_get}
use Rattle.std.specs.List.{list_all, list_any}
use Rattle.vp_hub.specs.Hub.{Outcome}
use Rattle.vp_serve.specs.declared.reason.CloseReason.{CloseReason}
use Rattle.vp_serve.specs.declared.reason.CloseReason.TheVariants.{IdleTimeout}
use Rattle.vp_serve.specs.declared.schedule.Schedule.{Schedule}
use Rattle.vp_serve.specs.Connection.{Connection}
use Rattle.vp_serve.specs.declared.connection.NextAction.TheVariants.{Send, Receive}
use Rattle.vp_serve.specs.Connections.{connection_of, next_action}
use Rattle.vp_serve.specs.ServerLoop.{LoopState, AwaitsPeers, Action, Accepted, Submitted, Sent, Closed, Grown, Fed}
use Rattle.vp_serve.specs.ServerLoop.{Waited, IsTransition, IsTrace, is_over}
use Rattle.vp_serve.specs.Files.{is_fed, is_refused}
use Rattle.vp_serve.specs.Readiness.{Readiness, IsReadyAt}
use Rattle.vp_serve.specs.Transfer.{Transfer, Waits}
use Rattle.vp_serve.specs.Transport.{ContinuesLoop, transfers_of}
use Rattle.vp_serve.specs.Laws.{replied_in, replied_to}
use Rattle.vp_serve.specs.Turns.{AreAll, has_actions, is_due, is_of, IsTurn}
use Rattle.vp_serve.specs.Schedule.{IsCounted, IsPolled, IsScheduled, IsTimely}

-- an action closes a connection whose idle timeout is over at a time
abbrev pub IsIdleClosing : ℕ → Action → Type 0
IsIdleClosing now (Closed c time IdleTimeout o) = time ≡ now
IsIdleClosing now _ = ⊥

-- an action reads a piece of the file that is followed under its name, or feeds a piece to its stream
abbrev pub IsOfFile : List (List ℕ) → Action → Type 0
IsOfFile names (Grown piece) = slice_get names piece.place ≡ Some piece.name
IsOfFile names (Fed piece o) = Unit {0}
IsOfFile names _ = ⊥

-- The server follows the files of these names and does nothing else, and just its transfers are logged.
pub record FollowsFiles (names : List (List ℕ)) (old new : LoopState)
    (before after : Option (List Transfer)) : Type 0 where
  pub does : ContinuesLoop old new before after
  pub files : AreAll (IsOfFile names) does.trace

-- something may be done at once: something just happened, or a connection is due
abbrev pub is_busy : Schedule → LoopState → Bool
is_busy s d = s.is_busy || list_any is_due d.connections

-- The trace of a turn of the loop. The server waits, or looks what is ready if it is busy; connections are accepted and
-- attended; some of those whose idle timeout is over are closed; and the streams of these names are fed, once the clock
-- has reached the next poll: then a piece waits on only if memory is refused for it. If it is not busy then, each
-- connection waits for its peer, none was attended, none was closed and no stream took a piece. If it is, something
-- happened or a connection is due.
pub record IsLoopTurn (names : List (List ℕ)) (s r : Schedule) (d : LoopState) (trace : List Action)
    (e : LoopState) : Type 0 where
  pub attended : LoopState
  pub left : LoopState
  pub taken : List Action
  pub closings : List Action
  pub feeds : List Action
  pub whole : trace ≡ Waited (is_busy s d) r.clock ∷ (taken ++ (closings ++ feeds))
  pub turn : IsTurn r.time d taken attended
  pub closes : IsTrace attended closings left
  pub idle : AreAll (IsIdleClosing r.time) closings
  pub grows : IsTrace left feeds e
  pub files : AreAll (IsOfFile names) feeds
  pub polls : r.clock < s.next_poll → feeds ≡ []
  pub fed : s.next_poll ≤ r.clock → is_some e.waiting ≡ true → list_any is_refused feeds ≡ true
  pub polled : IsPolled e.options.poll_interval (list_any is_fed feeds) s r
  pub counted : IsCounted s r
  pub rests : r.is_busy ≡ false
      → AwaitsPeers e × (taken ≡ []) × (closings ≡ []) × (list_any is_fed feeds ≡ false)
  pub moves : r.is_busy ≡ true
      → (has_actions (taken ++ (closings ++ feeds)) ≡ true) ⊎ (list_any is_due e.connections ≡ true)

-- The server takes a turn of the loop, and just its transfers are logged. Each connection that is ready for its next
-- action after the turn has had an action in it.
pub record TakesLoopTurn (names : List (List ℕ)) (s r : Schedule) (d e : LoopState)
    (before after : Option (List Transfer)) (readiness : ℕ → Readiness) : Type 0 where
  pub does : ContinuesLoop d e before after
  pub turn : IsLoopTurn names s r d does.trace e
  pub attended : (c : ℕ) → IsReadyAt c readiness e → list_any (is_of c) does.trace ≡ true

-- what a turn did, and the schedule, the server and what its connections are ready for after it
pub record LoopTurn : Type 0 where
  pub trace : List Action
  pub schedule : Schedule
  pub server : LoopState
  pub readiness : ℕ → Readiness

-- each connection that is ready for its next action after a turn has had an action in it
abbrev pub AreAttended : LoopTurn → Type 0
AreAttended x = (c : ℕ) → IsReadyAt c x.readiness x.server → list_any (is_of c) x.trace ≡ true

-- one turn after another; in each, no connection that is ready is passed over, and after each, none is open a second
-- after its idle timeout
abbrev pub AreLoopTurns : List (List ℕ) → Schedule → LoopState → List LoopTurn → Schedule → LoopState → Type 0
AreLoopTurns names s d [] r e = (r ≡ s) × (e ≡ d)
AreLoopTurns names s d (x ∷ xs) r e =
    IsLoopTurn names s x.schedule d x.trace x.server × AreAttended x × IsScheduled x.schedule x.server
    × IsTimely x.schedule.time x.server × AreLoopTurns names x.schedule x.server xs r e

-- a connection is open, or is still to be accepted, after a turn
abbrev pub goes_on : LoopTurn → Bool
goes_on x = not (is_over x.server)

-- before the first turn, when everything is due
abbrev pub first_schedule : Schedule
first_schedule = record { time = 0; clock = 0; next_check = 0; next_poll = 0; is_busy = false }

-- The server takes turns of the loop, and just their transfers are logged: up to the first one after which it is over,
-- or 2 ^ 64 - 1 after each of which it goes on.
pub record TakesLoopTurns (names : List (List ℕ)) (over : Bool) (d e : LoopState)
    (before after : Option (List Transfer)) : Type 0 where
  pub turns : List LoopTurn
  pub last : Schedule
  pub does : ContinuesLoop d e before after
  pub are : AreLoopTurns names first_schedule d turns last e
  pub whole : does.trace ≡ flat_map (λ x. x.trace) turns
  pub count : over ≡ false → (length turns ≡ 2 ^ 64 - 1) × (list_all goes_on turns ≡ true)
  pub ends : over ≡ true → (earlier : List LoopTurn) × (x : LoopTurn) × (turns ≡ earlier ++ x ∷ [])
      × (list_all goes_on earlier ≡ true) × (is_over x.server ≡ true)

-- ---- laws

-- at the end of a turn of the loop no connection is open a second after its idle timeout
abbrev pub TurnsAreTimely : Type 0
TurnsAreTimely = (names : List (List ℕ)) (s r : Schedule) (d e : LoopState) (earlier later : List LoopTurn)
    (x : LoopTurn)
    → AreLoopTurns names s d (earlier ++ x ∷ later) r e
    → (c : ℕ) (t : Connection) → connection_of c x.server.connections ≡ Some t
    → x.schedule.time < t.last_active + x.server.options.idle_timeout + 1000

-- what happens in a turn of the loop, happens at the time of the turn
abbrev pub ActionsAreOfTheirTurn : Type 0
ActionsAreOfTheirTurn = (names : List (List ℕ)) (s r : Schedule) (d e : LoopState) (earlier later : List LoopTurn)
    (x : LoopTurn)
    → AreLoopTurns names s d (earlier ++ x ∷ later) r e
    → (before after : List Action) (a : Action) → x.trace ≡ before ++ a ∷ after → (c time : ℕ)
    → (a ≡ Accepted c time → time ≡ x.schedule.time)
    × ((line : List ℕ) (o : Outcome) → a ≡ Submitted c time line o → time ≡ x.schedule.time)
    × ((bytes : List ℕ) → a ≡ Sent c time bytes → time ≡ x.schedule.time)
    × ((reason : CloseReason) (o : Outcome) → a ≡ Closed c time reason o → time ≡ x.schedule.time)

-- from one turn of the loop to the next the time does not go back, and grows by a quarter of a second at most
abbrev pub TimeIsCounted : Type 0
TimeIsCounted = (names : List (List ℕ)) (s r : Schedule) (d e : LoopState) (earlier later : List LoopTurn)
    (x y : LoopTurn)
    → AreLoopTurns names s d (earlier ++ x ∷ y ∷ later) r e
    → (x.schedule.time ≤ y.schedule.time) × (y.schedule.time ≤ x.schedule.time + 250)
    × (x.schedule.clock ≤ y.schedule.clock → y.schedule.clock ≤ x.schedule.clock + 250
    → x.schedule.time + y.schedule.clock < 2 ^ 64
    → y.schedule.time + x.schedule.clock ≡ x.schedule.time + y.schedule.clock)
    × (x.schedule.clock + 250 ≤ y.schedule.clock → x.schedule.time + 250 < 2 ^ 64
    → y.schedule.time ≡ x.schedule.time + 250)

-- if the server waits, and does not just look what is ready, each connection waits for its peer
abbrev pub WaitsAreForPeers : Type 0
WaitsAreForPeers = (old new : LoopState) (clock : ℕ) → IsTransition old (Waited false clock) new
    → (c : ℕ) (t : Connection) → connection_of c old.connections ≡ Some t
    → (next_action t ≡ Send) ⊎ (next_action t ≡ Receive)

-- in a turn of the loop all bytes that are replied to a connection are of one action
abbrev pub TurnsAreFair : Type 0
TurnsAreFair = (names : List (List ℕ)) (s r : Schedule) (d e : LoopState) (earlier later : List LoopTurn)
    (x : LoopTurn)
    → AreLoopTurns names s d (earlier ++ x ∷ later) r e
    → (c : ℕ) → (replied_to c x.trace ≡ []) ⊎ ((before after : List Action) × (a : Action)
    × (x.trace ≡ before ++ a ∷ after) × (replied_to c x.trace ≡ replied_in c a))

-- the clock of a turn of the loop is what the transport's wait returned in it, and that is the turn's first transfer
abbrev pub TurnsBeginByWaiting : Type 0
TurnsBeginByWaiting = (names : List (List ℕ)) (s r : Schedule) (d e : LoopState) (earlier later : List LoopTurn)
    (x : LoopTurn)
    → AreLoopTurns names s d (earlier ++ x ∷ later) r e
    → (busy : Bool) × (rest : List Transfer) × (flat_map transfers_of x.trace ≡ Waits busy x.schedule.clock ∷ rest)

-- no connection that is ready after a turn of the loop was passed over in it
abbrev pub ReadyAreServed : Type 0
ReadyAreServed = (names : List (List ℕ)) (s r : Schedule) (d e : LoopState) (earlier later : List LoopTurn)
    (x : LoopTurn)
    → AreLoopTurns names s d (earlier ++ x ∷ later) r e
    → (c : ℕ) → IsReadyAt c x.readiness x.server → list_any (is_of c) x.trace ≡ true
