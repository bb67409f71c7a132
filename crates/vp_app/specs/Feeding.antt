-- Feeding a file to a hub in pieces, to its end or to its fault. Pinned by the tests `files_are_fed`,
-- `named_files_are_fed` and `long_files_are_fed_whole`.
use Rattle.std.specs.Prelude.{◌≡◌, ◌≢◌, ◌⊎◌, ℕ, Bool, true, false, List, [], ◌∷◌, ◌++◌, Option, Some, None, Result, Ok}
use Rattle.std.specs.Prelude.{Err, All, IsOk}
use Rattle.std.specs.List.{concat}
use Rattle.std.specs.Io.KnownBytes.{IsAtEnd}
use Rattle.vp_hub.specs.declared.event.Event.{Event}
use Rattle.vp_hub.specs.declared.event.Event.TheVariants.{Feed, End}
use Rattle.vp_hub.specs.declared.event.HubFault.{HubFault}
use Rattle.vp_hub.specs.declared.event.HubFault.TheVariants.{Memory}
use Rattle.vp_hub.specs.declared.event.Reply.{Reply}
use Rattle.vp_hub.specs.Hub.{Outcome, HubState, IsStep}
use Rattle.vp_hub.specs.View.{IsRun}
use Rattle.vp_app.specs.declared.service.ServiceFault.{ServiceFault}

-- the events for the pieces of a stream
abbrev pub feeds : List ℕ → List (List ℕ) → List Event
feeds name [] = []
feeds name (piece ∷ pieces) = Feed name piece ∷ feeds name pieces

-- the result of a piece that is refused, if there is one
abbrev pub refused : Option HubFault → List Outcome
refused None = []
refused (Some fault) = Err fault ∷ []

-- no piece is refused and the reader is at its end; or one is refused, and memory has not run out
abbrev pub IsFeedingDone : Option HubFault → Option (List ℕ) → Type 0
IsFeedingDone None left = IsAtEnd left
IsFeedingDone (Some fault) left = fault ≢ Memory

-- The pieces of a file are fed, and then its end is marked. Either all pieces are taken, to the end of the file; or
-- they are taken up to one that is refused, because the stream has a fault.
pub record IsFed (name : List ℕ) (old new : HubState) (file : List ℕ) (left : Option (List ℕ)) : Type 0 where
  pub pieces : List (List ℕ)
  pub taken : List Outcome
  pub fault : Option HubFault
  pub told : Outcome
  pub file_is : file ≡ concat pieces
  pub run : IsRun old (feeds name pieces ++ End name ∷ []) ((taken ++ refused fault) ++ told ∷ []) new
  pub all_taken : All IsOk taken
  pub whole : IsFeedingDone fault left

-- one read: a piece is fed; or the end is marked, at the reader's end or after a piece that is refused
abbrev pub FeedsPiece : List ℕ → HubState → HubState → Result Bool ServiceFault → List ℕ → Option (List ℕ) → Type 0
FeedsPiece name old new (Ok true) piece left = (reply : Reply) × IsStep old (Feed name piece) (Ok reply) new
FeedsPiece name old new (Ok false) piece left =
    ((piece ≡ []) × IsAtEnd left × ((o : Outcome) × IsStep old (End name) o new))
    ⊎ ((fault : HubFault) × (mid : HubState) × (o : Outcome) × (fault ≢ Memory)
    × IsStep old (Feed name piece) (Err fault) mid × IsStep mid (End name) o new)
FeedsPiece name old new (Err fault) piece left = Unit {0}
