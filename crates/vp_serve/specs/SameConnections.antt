-- Which connections are open in the hub.
use Rattle.std.specs.Prelude.{◌≡◌, ℕ, List, [], map}
use Rattle.vp_hub.specs.Hub.{HubState}
use Rattle.vp_hub.specs.Standing.{connection_numbers}
use Rattle.vp_serve.specs.declared.options.ServeOptions.{ServeOptions}
use Rattle.vp_serve.specs.Connection.{Connection}
use Rattle.vp_serve.specs.ServerLoop.{LoopState, initial, Action, IsTrace}

abbrev pub numbers_of : List Connection → List ℕ
numbers_of connections = map (λ t. t.number) connections

-- the connections that are open in the hub are those of the server: one that was closed is in neither
abbrev pub SameConnections : Type 0
SameConnections = (options : ServeOptions) (s : HubState) (trace : List Action) (d : LoopState)
    → s.connections ≡ [] → IsTrace (initial options s) trace d
    → connection_numbers d.hub.connections ≡ numbers_of d.connections
