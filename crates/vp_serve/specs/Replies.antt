-- How much the hub replies to a line.
use Rattle.std.specs.Prelude.{◌≡◌, ◌⊎◌, ℕ, Bool, List, [], ◌++◌, Ok}
use Rattle.vp_heads.specs.Replies.{too_long}
use Rattle.vp_hub.specs.declared.connection.ConnectionState.{ConnectionState}
use Rattle.vp_hub.specs.declared.event.Reply.{Reply}
use Rattle.vp_hub.specs.Pages.{Streams, IsReply}
use Rattle.vp_hub.specs.Hub.{Serves}
use Rattle.vp_hub.specs.Lines.{IsLine}
use Rattle.vp_serve.specs.ServerLoop.{LoopState, Submitted, IsTransition}

-- nothing is added to a reply, or what the streams reply to one head, or what is replied to a head that is too long
abbrev pub AddsOneReply : Streams → List ℕ → List ℕ → Type 0
AddsOneReply streams before after =
    (after ≡ before) ⊎ ((after ≡ before ++ too_long)
    ⊎ ((head : List ℕ) × (r : List ℕ × Bool) × IsReply streams head r × (after ≡ before ++ r.0)))

-- a line gets one reply at most
abbrev pub LinesGetOneReply : Type 0
LinesGetOneReply = (streams : Streams) (line : List ℕ) (v w : ConnectionState × List ℕ)
    → IsLine line → Serves streams line v w → AddsOneReply streams v.1 w.1

-- the reply to a line that is handed in is that of the streams at that moment
abbrev pub RepliesAreCurrent : Type 0
RepliesAreCurrent = (old new : LoopState) (c now : ℕ) (line : List ℕ) (r : Reply)
    → IsTransition old (Submitted c now line (Ok r)) new
    → AddsOneReply old.hub.streams [] r.bytes
