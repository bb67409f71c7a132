-- What the server answers about a connection.
use Rattle.std.specs.Prelude.{◌+◌, not, nat_lt, ℕ, Bool, false, Option, Some, None}
use Rattle.vp_hub.specs.declared.event.HubFault.{HubFault}
use Rattle.vp_serve.specs.declared.options.ServeOptions.{ServeOptions}
use Rattle.vp_serve.specs.Connection.{Connection}

abbrev pub refusal_of_feed : Option Connection → Option HubFault
refusal_of_feed None = None
refusal_of_feed (Some t) = t.fault

-- a time limit that began at a time is over
abbrev pub is_past : ℕ → ℕ → ℕ → Bool
is_past start limit now = not (nat_lt now (start + limit))

-- a connection is open, and its idle timeout is over
abbrev pub is_idle : ServeOptions → ℕ → Option Connection → Bool
is_idle options now None = false
is_idle options now (Some t) = is_past t.last_active options.idle_timeout now
