-- Private to the crate: the parts of a turn.
use Rattle.std.specs.Prelude.{◌≡◌, ◌⊎◌, ◌<◌, ℕ, Bool, true, List, [], Option, is_some, flat_map}
use Rattle.std.specs.List.{list_any}
use Rattle.vp_serve.specs.ServerLoop.{LoopState, IsTrace, Action, Accepted, Rejected, Received, Submitted, Sent, Closed}
use Rattle.vp_serve.specs.Transfer.{Transfer, Logs}
use Rattle.vp_serve.specs.Transport.{transfers_of, ended_names}
use Rattle.vp_serve.specs.Turns.{AreAll, has_actions}
use Rattle.vp_serve.specs.Readiness.{Readiness, IsNoReadier}
use Rattle.vp_serve.specs.Files.{is_fed, is_refused}
use Rattle.vp_serve.specs.LoopTurns.{IsOfFile}

-- an action reads from connection c, writes to it or closes it
abbrev pub IsTransferOf : ℕ → ℕ → Action → Type 0
IsTransferOf c now (Received d bytes) = d ≡ c
IsTransferOf c now (Sent d time bytes) = (d ≡ c) × (time ≡ now)
IsTransferOf c now (Closed d time reason o) = (d ≡ c) × (time ≡ now)
IsTransferOf c now _ = ⊥

-- an action hands a line of connection c to the hub, or closes it
abbrev pub IsSubmissionOf : ℕ → ℕ → Action → Type 0
IsSubmissionOf c now (Submitted d time line o) = (d ≡ c) × (time ≡ now)
IsSubmissionOf c now (Closed d time reason o) = (d ≡ c) × (time ≡ now)
IsSubmissionOf c now _ = ⊥

-- an action accepts or rejects a connection
abbrev pub IsArrival : ℕ → Action → Type 0
IsArrival now (Accepted d time) = time ≡ now
IsArrival now (Rejected d fault) = Unit {0}
IsArrival now _ = ⊥

-- each connection of a smaller number is ready for nothing that it was not ready for before
abbrev pub AreNoReadierBelow : ℕ → (ℕ → Readiness) → (ℕ → Readiness) → Type 0
AreNoReadierBelow n old new = (c : ℕ) → c < n → IsNoReadier (old c) (new c)

-- The server performs a trace of actions of one kind, and just its transfers are logged. It has moved if there is an
-- action.
pub record Performs (P : Action → Type 0) (moved : Bool) (old new : LoopState)
    (before after : Option (List Transfer)) : Type 0 where
  pub trace : List Action
  pub is_trace : IsTrace old trace new
  pub logs : Logs before after (flat_map transfers_of trace)
  pub follows : flat_map ended_names trace ≡ []
  pub kind : AreAll P trace
  pub moves : has_actions trace ≡ moved

-- The files of these names are followed. They grew if a stream took or refused a piece.
pub record Feeds (names : List (List ℕ)) (grew : Bool) (old new : LoopState)
    (before after : Option (List Transfer)) : Type 0 where
  pub moved : Bool
  pub does : Performs (IsOfFile names) moved old new before after
  pub took : list_any is_fed does.trace ≡ grew

-- .. and a piece waits at the end only if one waited before that was left alone, or memory was refused
pub record FeedsThrough (names : List (List ℕ)) (grew waited : Bool) (old new : LoopState)
    (before after : Option (List Transfer)) : Type 0 where
  pub feeds : Feeds names grew old new before after
  pub left : is_some new.waiting ≡ true → (waited ≡ true) ⊎ (list_any is_refused feeds.does.trace ≡ true)
