-- What a transport says that its connections are ready for.
use Rattle.std.specs.Prelude.{◌≡◌, ℕ, Bool, true, Some}
use Rattle.vp_serve.specs.declared.connection.NextAction.{NextAction}
use Rattle.vp_serve.specs.declared.connection.NextAction.TheVariants.{Send, Submit, Receive, Close}
use Rattle.vp_serve.specs.Connection.{Connection}
use Rattle.vp_serve.specs.Connections.{connection_of, next_action}
use Rattle.vp_serve.specs.ServerLoop.{LoopState}

-- whether a read of a connection may do something, and whether a write may
pub record Readiness : Type 0 where
  pub read : Bool
  pub write : Bool

-- Whether an action may do something for a connection. The transport says it of a write and a read; handing its bytes
-- to the hub and closing it wait for nothing
abbrev pub is_ready_for : Readiness → NextAction → Bool
is_ready_for ready Send = ready.write
is_ready_for ready Receive = ready.read
is_ready_for ready Submit = true
is_ready_for ready Close = true

-- connection c is open, and ready for its next action
abbrev pub IsReadyAt : ℕ → (ℕ → Readiness) → LoopState → Type 0
IsReadyAt c readiness d =
    (t : Connection) × (connection_of c d.connections ≡ Some t) × (is_ready_for (readiness c) (next_action t) ≡ true)

-- a connection is ready for nothing that it was not ready for before
abbrev pub IsNoReadier : Readiness → Readiness → Type 0
IsNoReadier old new = (new.read ≡ true → old.read ≡ true) × (new.write ≡ true → old.write ≡ true)

-- so is each connection
abbrev pub AreNoReadier : (ℕ → Readiness) → (ℕ → Readiness) → Type 0
AreNoReadier old new = (c : ℕ) → IsNoReadier (old c) (new c)
