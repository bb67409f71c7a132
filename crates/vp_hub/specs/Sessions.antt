-- One connection over a reader and a writer, from its opening to its end: the bytes read, the lines handed to the hub,
-- the responses, and the bytes written. Pinned by the tests `serve_one_in_single_bytes`, `reads_are_not_refused` and
-- `hundred_requests_in_one_piece`.
use Rattle.std.specs.Prelude.{◌≡◌, ◌<◌, ◌≤◌, ◌^◌, ◌⊎◌, ℕ, Bool, true, false, List, [], ◌∷◌, ◌++◌, length, Option, Some}
use Rattle.std.specs.Prelude.{None, Result, Ok, Err, IsOk, All}
use Rattle.std.specs.List.{concat}
use Rattle.std.specs.Option.{option_to_list}
use Rattle.std.specs.Io.KnownBytes.{Appends, IsAtEnd}
use Rattle.vp_base.specs.Counted.{AppendsPrefix, HasFailed}
use Rattle.vp_hub.specs.declared.event.Event.{Event}
use Rattle.vp_hub.specs.declared.event.Event.TheVariants.{Open, Bytes, Shut}
use Rattle.vp_hub.specs.declared.event.HubFault.{HubFault}
use Rattle.vp_hub.specs.declared.event.Reply.{Reply}
use Rattle.vp_hub.specs.declared.connection.ConnectionState.{ConnectionState}
use Rattle.vp_hub.specs.declared.session.ServeFault.{ServeFault}
use Rattle.vp_hub.specs.declared.session.ServeFault.TheVariants as serve_fault
use Rattle.vp_hub.specs.Pages.{Streams}
use Rattle.vp_hub.specs.Hub.{Outcome, HubState, IsStep, no_bytes, with_connection_state}
use Rattle.vp_hub.specs.Heads.{AnswersHeads}
use Rattle.vp_hub.specs.Lines.{IsLine}
use Rattle.vp_hub.specs.Work.{Hub, IsWorked, IsWorkedRun}

-- ---- pieces and responses

-- the bytes of one read, or of one line of them
abbrev pub IsPiece : List ℕ → Type 0
IsPiece piece = (0 < length piece) × (length piece ≤ 4096)

-- the events for the pieces of a connection
abbrev pub byte_events : ℕ → List (List ℕ) → List Event
byte_events c [] = []
byte_events c (piece ∷ pieces) = Bytes c piece ∷ byte_events c pieces

-- the bytes of a response
abbrev pub reply_bytes : Outcome → List ℕ
reply_bytes (Ok reply) = reply.bytes
reply_bytes (Err fault) = []

-- the bytes of all responses
abbrev pub replies : List Outcome → List ℕ
replies [] = []
replies (o ∷ os) = reply_bytes o ++ replies os

-- the connection stays open after the answer
abbrev pub StaysOpen : Outcome → Type 0
StaysOpen (Ok reply) = reply.close ≡ false
StaysOpen (Err fault) = ⊥

-- the connection is closed after the answer
abbrev pub Closes : Outcome → Type 0
Closes (Ok reply) = reply.close ≡ true
Closes (Err fault) = ⊥

-- the bytes are split into request heads, and the text is the response to them
abbrev pub AreAnswered : Streams → List ℕ → List ℕ → Type 0
AreAnswered streams bytes text = (heads : List (List ℕ)) × (kept : ConnectionState)
    × AnswersHeads streams heads bytes (kept, text)

-- ---- the end of a session

-- The end of a session, given the answer to the last line and the number of reads that gave bytes. It succeeds at the
-- reader's end, or after a response that closes. It fails by a fault of the hub, a failed read or write, or after
-- 1,048,576 reads.
abbrev pub EndsBy : Result (Unit {0}) ServeFault → Option Outcome → ℕ → Option (List ℕ) → Type 0
EndsBy (Ok u) None reads left = IsAtEnd left
EndsBy (Ok u) (Some last) reads left = Closes last
EndsBy (Err (serve_fault.Hub fault)) last reads left = last ≡ Some (Err fault)
EndsBy (Err serve_fault.Device) None reads left = Unit {0}
EndsBy (Err serve_fault.Device) (Some last) reads left = IsOk last
EndsBy (Err serve_fault.ReadTurns) last reads left = (last ≡ None) × (reads ≡ 2 ^ 20)

-- The bytes of the last read that are not handed to the hub: none, unless the answer to the last line ends the session
-- by a response that closes, a fault, or a failed write. They are less than a piece.
abbrev pub IsLeftOver : Option Outcome → List ℕ → Type 0
IsLeftOver None rest = rest ≡ []
IsLeftOver (Some last) rest = length rest < 4096

-- all responses are written, or a prefix of them if a write failed
abbrev pub WritesBy : Result (Unit {0}) ServeFault → Type 0 → List ℕ → Option (List ℕ) → Option (List ℕ) → Type 0
WritesBy (Ok u) failed text before after = Appends before after text
WritesBy (Err (serve_fault.Hub fault)) failed text before after = Appends before after text
WritesBy (Err serve_fault.Device) failed text before after =
    Appends before after text ⊎ (failed × AppendsPrefix before after text)
WritesBy (Err serve_fault.ReadTurns) failed text before after = Appends before after text

-- The responses answer all bytes read; after a failed read or write, those handed to the hub; and after a fault of the
-- hub, a prefix of those.
abbrev pub AnsweredBy : Result (Unit {0}) ServeFault → Streams → List ℕ → List ℕ → List ℕ → Type 0
AnsweredBy (Ok u) streams read handed_in text = AreAnswered streams read text
AnsweredBy (Err (serve_fault.Hub fault)) streams read handed_in text = (front back : List ℕ)
    × (handed_in ≡ front ++ back) × AreAnswered streams front text
AnsweredBy (Err serve_fault.Device) streams read handed_in text = AreAnswered streams handed_in text
AnsweredBy (Err serve_fault.ReadTurns) streams read handed_in text = AreAnswered streams read text

-- ---- line by line

-- one event of a hub with its result, its work, and the cache after it
abbrev pub IsWorkedStep : Hub → Event → Outcome → Hub → Type 0
IsWorkedStep old e o new = IsStep old.state e o new.state × IsWorked old e o new

-- Lines handed in one after another. Each finds the hub and the writer as they are after the line before it and the
-- response to that line: so each response is written before the next line is handed in.
abbrev pub GoInTurn : ℕ → List (List ℕ) → List Outcome → Hub → Hub → Option (List ℕ) → Option (List ℕ) → Type 0
GoInTurn c [] [] old new before after = (new ≡ old) × (after ≡ before)
GoInTurn c (line ∷ lines) (o ∷ os) old new before after =
    (mid : Hub) × (between : Option (List ℕ)) × IsWorkedStep old (Bytes c line) o mid
    × Appends before between (reply_bytes o) × GoInTurn c lines os mid new between after
GoInTurn c [] (o ∷ os) old new before after = ⊥
GoInTurn c (line ∷ lines) [] old new before after = ⊥

-- the line whose answer ends the session, if there is one: the response is written, or a prefix if a write failed
abbrev pub EndsInTurn : ℕ → Option (List ℕ) → Option Outcome → Hub → Hub → Result (Unit {0}) ServeFault
    → Option (List ℕ) → Option (List ℕ) → Type 0 → Type 0
EndsInTurn c None None old new o before after failed = (new ≡ old) × (after ≡ before)
EndsInTurn c (Some line) (Some last) old new o before after failed =
    IsWorkedStep old (Bytes c line) last new × WritesBy o failed (reply_bytes last) before after
EndsInTurn c None (Some last) old new o before after failed = ⊥
EndsInTurn c (Some line) None old new o before after failed = ⊥

-- When a line is handed in, the writer holds the responses to all lines before it. `front` are the lines after which
-- the session goes on; `final` is the one whose answer ends it.
pub record AreInTurn (c : ℕ) (old new : Hub) (o : Result (Unit {0}) ServeFault) (lines : List (List ℕ))
    (going : List Outcome) (last : Option Outcome) (before after : Option (List ℕ)) (failed : Type 0) : Type 0 where
  pub front : List (List ℕ)
  pub final : Option (List ℕ)
  pub mid : Hub
  pub between : Option (List ℕ)
  pub lines_are : lines ≡ front ++ option_to_list final
  pub goes_on : GoInTurn c front going old mid before between
  pub ends : EndsInTurn c final last mid new o between after failed

-- ---- the whole session

-- the bytes are read in these pieces
pub record IsReadIn (pieces : List (List ℕ)) (read : List ℕ) : Type 0 where
  pub read_is : read ≡ concat pieces
  pub small : All IsPiece pieces

-- A session after its opening and before its shutting. Each line read is a piece that is handed to the hub as an event,
-- in a run with its work; all answers except the last keep the connection open. Each response is written before the
-- next line is handed in.
pub record IsOpenSession (c : ℕ) (old new : Hub) (o : Result (Unit {0}) ServeFault) (read : List ℕ)
    (left before after : Option (List ℕ)) (failed : Type 0) : Type 0 where
  pub reads : List (List ℕ)
  pub pieces : List (List ℕ)
  pub rest : List ℕ
  pub going : List Outcome
  pub last : Option Outcome
  pub read_in : IsReadIn reads read
  pub read_is : read ≡ concat pieces ++ rest
  pub left_over : IsLeftOver last rest
  pub small : All IsPiece pieces
  pub lines : All IsLine pieces
  pub each_read : length reads ≤ length pieces
  pub run : IsWorkedRun old (byte_events c pieces) (going ++ option_to_list last) new
  pub goes_on : All StaysOpen going
  pub ends : EndsBy o last (length reads) left
  pub writes : WritesBy o failed (replies (going ++ option_to_list last)) before after
  pub in_turn : AreInTurn c old new o pieces going last before after failed
  pub answered : AnsweredBy o old.state.streams read (concat pieces) (replies (going ++ option_to_list last))

-- a session: the connection is opened, served and shut
pub record IsSession (c : ℕ) (old new : Hub) (o : Result (Unit {0}) ServeFault) (read : List ℕ)
    (left before after : Option (List ℕ)) (failed : Type 0) : Type 0 where
  pub first : Hub
  pub last : Hub
  pub comes : IsWorkedStep old (Open c) (Ok no_bytes) first
  pub talks : IsOpenSession c first last o read left before after failed
  pub goes : IsWorkedStep last (Shut c) (Ok no_bytes) new

-- the opening is refused
abbrev pub IsTurnedAway : ℕ → HubState → HubState → Result (Unit {0}) ServeFault → Type 0
IsTurnedAway c old new o = (fault : HubFault) × IsStep old (Open c) (Err fault) new × (o ≡ Err (serve_fault.Hub fault))

-- only the state of connection c has changed
abbrev pub IsUnchangedApart : ℕ → HubState → HubState → Type 0
IsUnchangedApart c old new = (state_of_connection : ConnectionState)
    × (new ≡ record {
      streams = old.streams;
      connections = with_connection_state c state_of_connection old.connections;
    })

-- ---- one line

-- a line handed to the hub, with its answer
abbrev pub HandsIn : ℕ → Hub → Hub → List ℕ → Outcome → Type 0
HandsIn c old new line o = IsPiece line × IsLine line × IsWorkedStep old (Bytes c line) o new

-- one line: a response that keeps the connection open, or one that closes it; or a fault, or a failed write
abbrev pub AnswersLine : ℕ → Hub → Hub → Result Bool ServeFault → List ℕ → Option (List ℕ) → Option (List ℕ) → Type 0
    → Type 0
AnswersLine c old new (Ok true) line before after failed =
    (reply : Reply) × HandsIn c old new line (Ok reply) × (reply.close ≡ false) × Appends before after reply.bytes
AnswersLine c old new (Ok false) line before after failed =
    (reply : Reply) × HandsIn c old new line (Ok reply) × (reply.close ≡ true) × Appends before after reply.bytes
AnswersLine c old new (Err (serve_fault.Hub fault)) line before after failed =
    HandsIn c old new line (Err fault) × (after ≡ before)
AnswersLine c old new (Err serve_fault.Device) line before after failed =
    (reply : Reply) × HandsIn c old new line (Ok reply) × failed × AppendsPrefix before after reply.bytes
AnswersLine c old new (Err serve_fault.ReadTurns) line before after failed = ⊥

-- ---- one read

-- lines handed in one after another; each response keeps the connection open, and is written before the next line
abbrev pub GoesOn : ℕ → List (List ℕ) → Hub → Hub → Option (List ℕ) → Option (List ℕ) → Type 0
GoesOn c [] old new before after = (new ≡ old) × (after ≡ before)
GoesOn c (line ∷ lines) old new before after =
    (mid : Hub) × (between : Option (List ℕ)) × AnswersLine c old mid (Ok true) line before between ⊥
    × GoesOn c lines mid new between after

-- lines are handed in up to one whose answer ends the session; the rest of the piece is not handed in
pub record StopsIn (c : ℕ) (old new : Hub) (o : Result Bool ServeFault) (piece : List ℕ)
    (before after : Option (List ℕ)) (failed : Type 0) : Type 0 where
  pub front : List (List ℕ)
  pub line : List ℕ
  pub rest : List ℕ
  pub mid : Hub
  pub between : Option (List ℕ)
  pub piece_is : piece ≡ concat front ++ (line ++ rest)
  pub goes_on : GoesOn c front old mid before between
  pub stops : AnswersLine c mid new o line between after failed

-- a piece line by line: all its lines are answered, or one ends the session
abbrev pub AnswersPiece : ℕ → Hub → Hub → Result Bool ServeFault → List ℕ → Option (List ℕ) → Option (List ℕ) → Type 0
    → Type 0
AnswersPiece c old new (Ok true) piece before after failed = (lines : List (List ℕ)) × (piece ≡ concat lines)
    × GoesOn c lines old new before after
AnswersPiece c old new o piece before after failed = StopsIn c old new o piece before after failed

-- one read: nothing, at the reader's end or if it failed; or a piece, line by line
abbrev pub Exchanges : ℕ → Hub → Hub → Result Bool ServeFault → List ℕ → Option (List ℕ) → Option (List ℕ)
    → Option (List ℕ) → Type 0 → Type 0
Exchanges c old new o piece left before after failed =
    ((piece ≡ []) × (new ≡ old) × (after ≡ before) × ((o ≡ Err serve_fault.Device) ⊎ ((o ≡ Ok false) × IsAtEnd left)))
    ⊎ (IsPiece piece × AnswersPiece c old new o piece before after failed)

-- ---- the statement of the law `replies_come_before_the_next_line`

-- However a session ends, the writer holds the responses to all lines but the last one, and at least a prefix of the
-- response to that.
abbrev pub AllButTheLastAreWritten : Type 0
AllButTheLastAreWritten = (c : ℕ) (old new : Hub) (o : Result (Unit {0}) ServeFault) (read : List ℕ)
    (left before after : Option (List ℕ)) (failures_before failures_after : ℕ)
    → (session : IsOpenSession c old new o read left before after (HasFailed failures_before failures_after))
    → (between : Option (List ℕ)) × Appends before between (replies session.going)
    × AppendsPrefix between after (replies (option_to_list session.last))
