-- What an action is, by its transfers, by the events of the hub and by its replies.
use Rattle.std.specs.Prelude.{◌≡◌, ◌≢◌, ◌≤◌, ◌==◌, ◌⊎◌, ◌||◌, ◌++◌, ◌∷◌, [], ℕ, List, Bool, true, false, Option, Err}
use Rattle.std.specs.Prelude.{Some, flat_map}
use Rattle.std.specs.List.{list_all, list_any}
use Rattle.vp_hub.specs.declared.event.Event.{Event}
use Rattle.vp_hub.specs.declared.event.Event.TheVariants.{Bytes, End, Open}
use Rattle.vp_hub.specs.declared.event.HubFault.{HubFault}
use Rattle.vp_hub.specs.declared.event.HubFault.TheVariants.{Memory}
use Rattle.vp_hub.specs.Hub.{Outcome, HubState, IsStep}
use Rattle.vp_serve.specs.declared.options.ServeOptions.{ServeOptions}
use Rattle.vp_serve.specs.declared.reason.CloseReason.{CloseReason}
use Rattle.vp_serve.specs.declared.reason.CloseReason.TheVariants.{IdleTimeout, PeerEnded, TransferFailed}
use Rattle.vp_serve.specs.declared.connection.NextAction.TheVariants.{Send, Receive}
use Rattle.vp_serve.specs.Connection.{Connection}
use Rattle.vp_serve.specs.Connections.{connection_of, next_action}
use Rattle.vp_serve.specs.Reasons.{IsNotFinished}
use Rattle.vp_serve.specs.Laws.{replied_in, replied_to, written_to}
use Rattle.vp_serve.specs.ServerLoop.{LoopState, initial, is_full, IsTransition, IsTrace, events_of, Action}
use Rattle.vp_serve.specs.ServerLoop.{Rejected, Closed}
use Rattle.vp_serve.specs.Transfer.{Transfer, Accepts, Reads, Writes, PeerEnds, Fails, Closes, Grows, Waits}
use Rattle.vp_serve.specs.Transport.{ContinuesLoop, transfers_of}
use Rattle.vp_serve.specs.Turns.{is_of, replies_made}

-- a transfer is of connection c
abbrev pub passes_for : ℕ → Transfer → Bool
passes_for c (Accepts d) = d == c
passes_for c (Reads d bytes) = d == c
passes_for c (Writes d bytes) = d == c
passes_for c (PeerEnds d) = d == c
passes_for c (Fails d) = d == c
passes_for c (Closes d reason) = d == c
passes_for c (Grows place name bytes) = false
passes_for c (Waits busy clock) = false

-- an event hands bytes of connection c to the hub
abbrev pub is_line_of : ℕ → Event → Bool
is_line_of c (Bytes d line) = d == c
is_line_of c _ = false

-- an action is of connection c just if a transfer of it is, or bytes of c are handed to the hub; then all its transfers
-- are
abbrev pub ActionsAreOfConnections : Type 0
ActionsAreOfConnections = (c : ℕ) (a : Action)
    → (is_of c a ≡ list_any (passes_for c) (transfers_of a) || list_any (is_line_of c) (events_of a))
    × (is_of c a ≡ true → list_all (passes_for c) (transfers_of a) ≡ true)

-- all bytes that a trace replies to a connection are of one action, if it makes one reply at most
abbrev pub RepliesAreCounted : Type 0
RepliesAreCounted = (c : ℕ) (trace : List Action) → replies_made c trace ≤ 1
    → (replied_to c trace ≡ [])
    ⊎ ((earlier later : List Action) × (a : Action) × (trace ≡ earlier ++ a ∷ later)
    × (replied_to c trace ≡ replied_in c a))

-- a connection that was closed got all its replies, unless its idle timeout was over or a transfer failed
abbrev pub NothingIsLost : Type 0
NothingIsLost = (options : ServeOptions) (s : HubState) (earlier later : List Action) (d : LoopState)
    (c now : ℕ) (reason : CloseReason) (o : Outcome) → reason ≢ IdleTimeout → reason ≢ TransferFailed
    → IsTrace (initial options s) (earlier ++ Closed c now reason o ∷ later) d
    → replied_to c (earlier ++ Closed c now reason o ∷ later) ≡ written_to c (earlier ++ Closed c now reason o ∷ later)

-- a server that follows its files reports the end of no stream to the hub
abbrev pub NoEndIsReported : Type 0
NoEndIsReported = (old new : LoopState) (before after : Option (List Transfer))
    (does : ContinuesLoop old new before after) (earlier later : List Event) (name : List ℕ)
    → flat_map events_of does.trace ≢ earlier ++ End name ∷ later

-- a connection is rejected since memory or the hub refuses it, and that changes neither the hub nor the connections
abbrev pub RejectedAreRefused : Type 0
RejectedAreRefused = (old new : LoopState) (c : ℕ) (fault : HubFault) → IsTransition old (Rejected c fault) new
    → (new.hub ≡ old.hub) × (new.connections ≡ old.connections)
    × ((fault ≡ Memory) ⊎ IsStep old.hub (Open c) (Err fault) old.hub) × (is_full old ≡ false)

-- a connection is closed for a failed transfer only if it waited for its peer
abbrev pub PeersFail : Type 0
PeersFail = (old new : LoopState) (c now : ℕ) (o : Outcome) → IsTransition old (Closed c now TransferFailed o) new
    → (t : Connection) × (connection_of c old.connections ≡ Some t)
    × ((next_action t ≡ Send) ⊎ (next_action t ≡ Receive))

-- one that is not finished, and whose reply is written, was not closed by the hub
abbrev pub FinishedAreClosed : Type 0
FinishedAreClosed = (c : ℕ) (xs : List Connection) → IsNotFinished c xs → (t : Connection)
    → connection_of c xs ≡ Some t → t.unsent ≡ [] → t.closing ≡ false

-- a connection is closed for a failed transfer just after one failed, and for the end of its peer just after that
abbrev pub ClosingsAreReported : Type 0
ClosingsAreReported = (c now : ℕ) (o : Outcome) (earlier later : List Action)
    → ((before after : List Transfer) × (flat_map transfers_of (earlier ++ Closed c now TransferFailed o ∷ later)
    ≡ before ++ Fails c ∷ Closes c TransferFailed ∷ after))
    × ((before after : List Transfer) × (flat_map transfers_of (earlier ++ Closed c now PeerEnded o ∷ later)
    ≡ before ++ PeerEnds c ∷ Closes c PeerEnded ∷ after))
