-- What holds of each connection along every trace.
use Rattle.std.specs.Prelude.{◌≡◌, ◌==◌, ◌≤◌, ◌+◌, ◌||◌, ◌++◌, ◌∷◌, [], ℕ, List, Bool, true, false, not, Some, Ok}
use Rattle.std.specs.Prelude.{Err, flat_map, if◌then◌else◌}
use Rattle.vp_hub.specs.Hub.{Outcome, HubState}
use Rattle.vp_hub.specs.View.{IsRun}
use Rattle.vp_serve.specs.declared.options.ServeOptions.{ServeOptions}
use Rattle.vp_serve.specs.declared.reason.CloseReason.TheVariants.{IdleTimeout}
use Rattle.vp_serve.specs.Connection.{Connection}
use Rattle.vp_serve.specs.Connections.{connection_of}
use Rattle.vp_serve.specs.Reasons.{is_abort}
use Rattle.vp_serve.specs.ServerLoop.{LoopState, initial, IsTransition, IsTrace, events_of, action_outcomes, Action}
use Rattle.vp_serve.specs.ServerLoop.{Accepted, Rejected}
use Rattle.vp_serve.specs.ServerLoop.{Received, Submitted, Sent, Closed, Grown, Fed, Ended, Waited}
use Rattle.vp_serve.specs.Transfer.{Transfer, Accepts, Reads, Writes, PeerEnds, Fails, Closes, Grows}
use Rattle.vp_serve.specs.Transfer.{Waits}
use Rattle.vp_serve.specs.Transport.{transfers_of}

abbrev pub own_change : ℕ → ℕ → List ℕ → List ℕ
own_change c d bytes = if d == c then bytes else []

-- ---- by the transfers alone: what was read from connection c, and what was written to it

abbrev pub read_in : ℕ → Transfer → List ℕ
read_in c (Accepts d) = []
read_in c (Reads d bytes) = own_change c d bytes
read_in c (Writes d bytes) = []
read_in c (PeerEnds d) = []
read_in c (Fails d) = []
read_in c (Closes d reason) = []
read_in c (Grows place name bytes) = []
read_in c (Waits busy clock) = []

abbrev pub written_in : ℕ → Transfer → List ℕ
written_in c (Accepts d) = []
written_in c (Reads d bytes) = []
written_in c (Writes d bytes) = own_change c d bytes
written_in c (PeerEnds d) = []
written_in c (Fails d) = []
written_in c (Closes d reason) = []
written_in c (Grows place name bytes) = []
written_in c (Waits busy clock) = []

abbrev pub received_from : ℕ → List Action → List ℕ
received_from c trace = flat_map (read_in c) (flat_map transfers_of trace)

abbrev pub written_to : ℕ → List Action → List ℕ
written_to c trace = flat_map (written_in c) (flat_map transfers_of trace)

-- ---- by the events of the hub: what was handed to it for connection c, and what it replied

abbrev pub submitted_replies : Outcome → List ℕ
submitted_replies (Ok reply) = reply.bytes
submitted_replies (Err fault) = []

abbrev pub submitted_in : ℕ → Action → List ℕ
submitted_in c (Accepted d now) = []
submitted_in c (Rejected d fault) = []
submitted_in c (Received d bytes) = []
submitted_in c (Submitted d now line o) = own_change c d line
submitted_in c (Sent d now bytes) = []
submitted_in c (Closed d now reason o) = []
submitted_in c (Grown piece) = []
submitted_in c (Fed piece o) = []
submitted_in c (Ended name o) = []
submitted_in c (Waited busy clock) = []

abbrev pub replied_in : ℕ → Action → List ℕ
replied_in c (Accepted d now) = []
replied_in c (Rejected d fault) = []
replied_in c (Received d bytes) = []
replied_in c (Submitted d now line o) = own_change c d (submitted_replies o)
replied_in c (Sent d now bytes) = []
replied_in c (Closed d now reason o) = []
replied_in c (Grown piece) = []
replied_in c (Fed piece o) = []
replied_in c (Ended name o) = []
replied_in c (Waited busy clock) = []

abbrev pub submitted_for : ℕ → List Action → List ℕ
submitted_for c trace = flat_map (submitted_in c) trace

abbrev pub replied_to : ℕ → List Action → List ℕ
replied_to c trace = flat_map (replied_in c) trace

-- connection c was closed, and not aborted
abbrev pub ends_in : ℕ → Action → Bool
ends_in c (Accepted d now) = false
ends_in c (Rejected d fault) = false
ends_in c (Received d bytes) = false
ends_in c (Submitted d now line o) = false
ends_in c (Sent d now bytes) = false
ends_in c (Closed d now reason o) = if d == c then not (is_abort reason) else false
ends_in c (Grown piece) = false
ends_in c (Fed piece o) = false
ends_in c (Ended name o) = false
ends_in c (Waited busy clock) = false

abbrev pub has_ended : ℕ → List Action → Bool
has_ended c [] = false
has_ended c (x ∷ xs) = ends_in c x || has_ended c xs

-- Of connection c: the bytes that were read are those that were handed to the hub, and then a rest. The replies are the
-- bytes that were written, and then a rest. While it is open the rests are its two buffers. Once it was closed, and not
-- aborted, all replies are written
pub record IsConnectionServed (c : ℕ) (trace : List Action) (d : LoopState) : Type 0 where
  pub unsubmitted : List ℕ
  pub unsent : List ℕ
  pub read : received_from c trace ≡ submitted_for c trace ++ unsubmitted
  pub replied : replied_to c trace ≡ written_to c trace ++ unsent
  pub open_now : (t : Connection) → connection_of c d.connections ≡ Some t
      → (t.unsubmitted ≡ unsubmitted) × (t.unsent ≡ unsent)
  pub ended : has_ended c trace ≡ true → unsent ≡ []

-- whatever happens, each connection is written its own replies, in order and without a gap
abbrev pub BytesAreServed : Type 0
BytesAreServed = (options : ServeOptions) (s : HubState) (trace : List Action) (d : LoopState)
    → IsTrace (initial options s) trace d → (c : ℕ) → IsConnectionServed c trace d

-- the hub performs a run of its own, by the events of the trace
abbrev pub TracesAreRuns : Type 0
TracesAreRuns = (old new : LoopState) (trace : List Action) → IsTrace old trace new
    → IsRun old.hub (flat_map events_of trace) (flat_map action_outcomes trace) new.hub

-- a connection is closed at the idle timeout only if no reply was made for it and no byte taken for so long
abbrev pub OnlyIdleTimeOut : Type 0
OnlyIdleTimeOut = (old new : LoopState) (c now : ℕ) (o : Outcome) → IsTransition old (Closed c now IdleTimeout o) new
    → (t : Connection) × (connection_of c old.connections ≡ Some t) × (t.last_active + old.options.idle_timeout ≤ now)

-- two traces, one after the other, are one
abbrev pub TracesAreJoined : Type 0
TracesAreJoined = (old mid new : LoopState) (xs ys : List Action)
    → IsTrace old xs mid → IsTrace mid ys new → IsTrace old (xs ++ ys) new
