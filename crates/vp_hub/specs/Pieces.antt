-- The statements of the laws on streams: a stream's bytes are its accepted pieces, and it ends at its accepted end.
use Rattle.std.specs.Prelude.{◌≡◌, ◌==◌, ◌<◌, ◌++◌, ◌&&◌, ◌||◌, ℕ, Bool, true, false, List, [], ◌∷◌, length, Option}
use Rattle.std.specs.Prelude.{Some, None, Ok, is_none, slice_get, if◌then◌else◌}
use Rattle.vp_base.specs.declared.limits.Limits.{Limits}
use Rattle.vp_ivf.specs.Ivf.{Contents}
use Rattle.vp_ivf.specs.Reader.{finish_answer}
use Rattle.vp_stream.specs.Answers.{reading_of}
use Rattle.vp_heads.specs.Routes.{name_index}
use Rattle.vp_hub.specs.declared.event.Event.{Event}
use Rattle.vp_hub.specs.declared.event.Event.TheVariants.{Feed, End}
use Rattle.vp_hub.specs.declared.source.Source.{Source}
use Rattle.vp_hub.specs.declared.source.StreamEnd.{StreamEnd}
use Rattle.vp_hub.specs.declared.source.StreamEnd.TheVariants as ending
use Rattle.vp_hub.specs.Pages.{Streams}
use Rattle.vp_hub.specs.Hub.{Outcome, HubState, new_hub_state, stream_limits, ending_by}
use Rattle.vp_hub.specs.View.{IsRun}

-- the stream at place k results from these bytes
pub record IsReadFrom (limits : Limits) (k : ℕ) (streams : Streams) (bytes : List ℕ) : Type 0 where
  pub source : Source
  pub there : slice_get streams.sources k ≡ Some source
  pub limits_are : source.stream.limits ≡ limits
  pub reading : source.stream.reading ≡ reading_of limits bytes

-- the stream's index is k
abbrev pub is_at : ℕ → Option ℕ → Bool
is_at k None = false
is_at k (Some j) = j == k

-- the piece of stream k that the event brings, if it is accepted
abbrev pub accepted : List (List ℕ) → ℕ → Event → Outcome → List ℕ
accepted names k (Feed name piece) (Ok reply) = if is_at k (name_index names name) then piece else []
accepted names k _ _ = []

-- the pieces of stream k that the run accepts
abbrev pub all_accepted : List (List ℕ) → ℕ → List Event → List Outcome → List ℕ
all_accepted names k [] os = []
all_accepted names k (e ∷ es) [] = []
all_accepted names k (e ∷ es) (o ∷ os) = accepted names k e o ++ all_accepted names k es os

-- after a run, each stream results from its earlier bytes and its accepted pieces
abbrev pub AreAcceptedPieces : HubState → List Event → List Outcome → HubState → Type 0
AreAcceptedPieces s es os new = (limits : Limits) (k : ℕ) (bytes : List ℕ) → IsReadFrom limits k s.streams bytes
    → IsReadFrom limits k new.streams (bytes ++ all_accepted s.streams.names k es os)

-- this holds for all runs
abbrev pub RunsAddAcceptedPieces : Type 0
RunsAddAcceptedPieces = (s new : HubState) (es : List Event) (os : List Outcome) → IsRun s es os new
    → AreAcceptedPieces s es os new

-- the streams of a new hub have no bytes
abbrev pub NewStreamsHaveNoBytes : Type 0
NewStreamsHaveNoBytes = (webp : Bool) (names : List (List ℕ)) (limits : Limits) (k : ℕ) → k < length names
    → IsReadFrom (stream_limits limits) k (new_hub_state webp names limits).streams []

-- ---- the end

-- the event marks the end of stream k, and is accepted
abbrev pub accepts_end : List (List ℕ) → ℕ → Event → Outcome → Bool
accepts_end names k (End name) (Ok reply) = is_at k (name_index names name)
accepts_end names k _ _ = false

-- one of the events does so
abbrev pub end_accepted : List (List ℕ) → ℕ → List Event → List Outcome → Bool
end_accepted names k [] os = false
end_accepted names k (e ∷ es) [] = false
end_accepted names k (e ∷ es) (o ∷ os) = accepts_end names k e o || end_accepted names k es os

-- how a stream has ended: it is open before its end is marked, and then its bytes determine its fault
abbrev pub end_by : Bool → Contents → StreamEnd
end_by false reading = ending.Open
end_by true reading = ending_by (finish_answer reading)

-- the stream at place k results from these bytes, and its end is marked or not; a fault takes precedence
pub record IsEndedFrom (limits : Limits) (k : ℕ) (streams : Streams) (bytes : List ℕ) (told : Bool) : Type 0 where
  pub read : IsReadFrom limits k streams bytes
  pub end : read.source.end ≡ end_by told (reading_of limits bytes)
  pub ended : read.source.stream.ended ≡ (told && is_none (reading_of limits bytes).fault)

-- after a run, a stream's end is marked exactly if it was before, or if the run accepted an `End` for it
abbrev pub AreAcceptedEnds : HubState → List Event → List Outcome → HubState → Type 0
AreAcceptedEnds s es os new = (limits : Limits) (k : ℕ) (bytes : List ℕ) (told : Bool)
    → IsEndedFrom limits k s.streams bytes told
    → IsEndedFrom limits k new.streams (bytes ++ all_accepted s.streams.names k es os) (told
    || end_accepted s.streams.names k es os)

-- this holds for all runs
abbrev pub RunsEndAtAcceptedEnds : Type 0
RunsEndAtAcceptedEnds = (s new : HubState) (es : List Event) (os : List Outcome) → IsRun s es os new
    → AreAcceptedEnds s es os new

-- the streams of a new hub are open
abbrev pub NewStreamsAreOpen : Type 0
NewStreamsAreOpen = (webp : Bool) (names : List (List ℕ)) (limits : Limits) (k : ℕ) → k < length names
    → IsEndedFrom (stream_limits limits) k (new_hub_state webp names limits).streams [] false
