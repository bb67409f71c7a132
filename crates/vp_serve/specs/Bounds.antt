-- How much is kept of each connection, and how many are open.
use Rattle.std.specs.Prelude.{◌≡◌, ◌≤◌, ◌<◌, ◌++◌, ℕ, List, [], length, Some}
use Rattle.vp_hub.specs.Hub.{HubState}
use Rattle.vp_hub.specs.Pages.{Streams}
use Rattle.vp_serve.specs.declared.options.ServeOptions.{ServeOptions}
use Rattle.vp_serve.specs.Connection.{Connection}
use Rattle.vp_serve.specs.Connections.{connection_of}
use Rattle.vp_serve.specs.Replies.{AddsOneReply}
use Rattle.vp_serve.specs.ServerLoop.{LoopState, initial, Action, IsTrace}

-- of the bytes that were read at most 4,096; of the replies the end of one
pub record IsConnectionBounded (t : Connection) : Type 0 where
  pub unsubmitted : length t.unsubmitted ≤ 4096
  pub streams : Streams
  pub written : List ℕ
  pub unsent : AddsOneReply streams [] (written ++ t.unsent)

-- whatever happens, no more connections are open than the options allow, each under a number that was given, and little
-- is kept of each
pub record AreConnectionsBounded (options : ServeOptions) (d : LoopState) : Type 0 where
  pub count : length d.connections ≤ options.max_connections
  pub given : (c : ℕ) (t : Connection) → connection_of c d.connections ≡ Some t → c < d.next
  pub small : (c : ℕ) (t : Connection) → connection_of c d.connections ≡ Some t → IsConnectionBounded t

abbrev pub ConnectionsAreBounded : Type 0
ConnectionsAreBounded = (options : ServeOptions) (s : HubState) (trace : List Action) (d : LoopState)
    → IsTrace (initial options s) trace d → AreConnectionsBounded options d

-- of the line of the request that the next reply answers at most 8,192 bytes are kept, as many as a head may have
abbrev pub IsKeptLine : List ℕ → Type 0
IsKeptLine line = length line ≤ 8192
