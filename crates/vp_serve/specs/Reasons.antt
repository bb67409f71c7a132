-- Why a connection is closed, and what is true then.
use Rattle.std.specs.Prelude.{◌≡◌, ◌≢◌, ◌≤◌, ◌+◌, ◌⊎◌, ℕ, Bool, true, false, List, Option, Some, None}
use Rattle.vp_hub.specs.declared.event.HubFault.{HubFault}
use Rattle.vp_hub.specs.declared.event.HubFault.TheVariants as fault
use Rattle.vp_serve.specs.declared.connection.NextAction.TheVariants.{Send, Submit, Receive, Close}
use Rattle.vp_serve.specs.declared.options.ServeOptions.{ServeOptions}
use Rattle.vp_serve.specs.declared.reason.CloseReason.{CloseReason}
use Rattle.vp_serve.specs.declared.reason.CloseReason.TheVariants.{Finished, PeerEnded, IdleTimeout, OutOfMemory}
use Rattle.vp_serve.specs.declared.reason.CloseReason.TheVariants.{TransferFailed, HubRefused}
use Rattle.vp_serve.specs.Connection.{Connection}
use Rattle.vp_serve.specs.Connections.{connection_of, next_action}

-- the reason that a fault of the hub gives
abbrev pub reason_by : Option HubFault → CloseReason
reason_by None = Finished
reason_by (Some fault.Memory) = OutOfMemory
reason_by (Some fault.UnknownStream) = HubRefused
reason_by (Some fault.Ended) = HubRefused
reason_by (Some fault.UnknownConn) = HubRefused
reason_by (Some fault.AlreadyOpen) = HubRefused
reason_by (Some fault.TooMany) = HubRefused
reason_by (Some fault.Failed) = HubRefused

-- the hub closed it, and all of the last reply is written
abbrev pub IsClosedByHub : Connection → CloseReason → Type 0
IsClosedByHub t reason = (next_action t ≡ Close) × (reason_by t.fault ≡ reason)

-- the idle timeout is over at a time
abbrev pub IsIdle : ServeOptions → ℕ → Connection → Type 0
IsIdle options now t = t.last_active + options.idle_timeout ≤ now

-- what is true of a connection that is closed at a time for a reason
abbrev pub IsReason : ServeOptions → ℕ → Connection → CloseReason → Type 0
IsReason options now t Finished = IsClosedByHub t Finished
IsReason options now t HubRefused = IsClosedByHub t HubRefused
IsReason options now t OutOfMemory =
    IsClosedByHub t OutOfMemory ⊎ ((next_action t ≡ Submit) ⊎ (next_action t ≡ Receive))
IsReason options now t PeerEnded = next_action t ≡ Receive
IsReason options now t IdleTimeout = IsIdle options now t
IsReason options now t TransferFailed = (next_action t ≡ Send) ⊎ (next_action t ≡ Receive)

-- no connection of a number is open that the hub closed and that took all of its last reply
abbrev pub IsNotFinished : ℕ → List Connection → Type 0
IsNotFinished c xs = (t : Connection) → connection_of c xs ≡ Some t → next_action t ≢ Close

-- bytes of a reply may be lost
abbrev pub is_abort : CloseReason → Bool
is_abort Finished = false
is_abort PeerEnded = false
is_abort IdleTimeout = true
is_abort OutOfMemory = false
is_abort TransferFailed = true
is_abort HubRefused = false
