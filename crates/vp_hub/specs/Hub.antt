-- The hub as a state machine: streams and connections, and the effect and the answer of each event. Pinned by the tests
-- `settings_and_events_refused`, `feed_between_bytes` and `head_too_long`.
use Rattle.std.specs.Prelude.{◌≡◌, ◌≢◌, ◌==◌, ◌<◌, ◌≤◌, slice_index_or, not, ℕ, nat_lt, nat_eq, Bool, true, false}
use Rattle.std.specs.Prelude.{codes, List, [], ◌∷◌, ◌++◌, length, map, filter, Option, Some, None, Result, Ok, Err}
use Rattle.std.specs.Prelude.{IsOk, slice_get, slice_set, if◌then◌else◌}
use Rattle.std.specs.Borrow.{Bor}
use Rattle.std.specs.Option.{option_map}
use Rattle.std.specs.List.{ends_with}
use Rattle.std.proofs.Common.{lit<, lit≤}
use Rattle.vp_hub.specs.declared.event.Event.{Event}
use Rattle.vp_hub.specs.declared.event.Event.TheVariants.{Feed, End, Open, Bytes, Shut}
use Rattle.vp_hub.specs.declared.event.Reply.{Reply}
use Rattle.vp_ivf.specs.declared.fault.FileFault.{FileFault}
use Rattle.vp_ivf.specs.declared.fault.FileFault.TheVariants as file_fault
use Rattle.vp_ivf.specs.Reader.{finish_answer}
use Rattle.vp_base.specs.declared.limits.Limits.{Limits}
use Rattle.vp_stream.specs.Stream.{stream_refusal, after_piece, stream_after_end}
use Rattle.vp_stream.specs.Stream.{initial_stream as fresh_stream}
use Rattle.vp_cache.specs.Cache.{CacheEntry, AreAnswersOf}
use Rattle.vp_heads.specs.Routes.{name_index}
use Rattle.vp_heads.specs.Replies.{too_long}
use Rattle.vp_hub.specs.declared.source.Source.{Source}
use Rattle.vp_hub.specs.declared.source.StreamEnd.{StreamEnd}
use Rattle.vp_hub.specs.declared.source.StreamEnd.TheVariants as ending
use Rattle.vp_hub.specs.declared.connection.ConnectionState.{ConnectionState}
use Rattle.vp_hub.specs.declared.connection.Connection.{Connection}
use Rattle.vp_hub.specs.Pages.{Streams, IsReply}
use Rattle.vp_hub.specs.declared.event.HubFault.{HubFault}
use Rattle.vp_hub.specs.declared.event.HubFault.TheVariants.{UnknownStream, Ended, UnknownConn, AlreadyOpen, TooMany}
use Rattle.vp_hub.specs.declared.event.HubFault.TheVariants.{Failed, Memory}

-- the bytes end as a request head does
unfoldable pub ends_head : List ℕ → Bool
ends_head bytes = ends_with nat_eq bytes (codes "\r\n\r\n")

-- A or B, selected by a condition
abbrev pub Chosen : Bool → Type 0 → Type 0 → Type 0
Chosen true A B = A
Chosen false A B = B

-- the state of a connection and its output, once a byte is received
abbrev pub Settles : Streams → List ℕ → List ℕ → ConnectionState × List ℕ → Type 0
Settles streams pending out w =
    Chosen (ends_head pending)
    ((r : List ℕ × Bool) × IsReply streams pending r × (w ≡ (record { pending = []; closed = r.1 }, out ++ r.0)))
    (w ≡ (if nat_lt (length pending) 8192 then (record { pending = pending; closed = false }, out) else
    (record { pending = []; closed = true }, out ++ too_long)))

-- one byte of a connection: the states and the outputs before and after
abbrev pub TakesByte : Streams → ℕ → ConnectionState × List ℕ → ConnectionState × List ℕ → Type 0
TakesByte streams b v w = Chosen v.0.closed (w ≡ v) (Settles streams (v.0.pending ++ b ∷ []) v.1 w)

-- a piece, byte by byte
abbrev pub Serves : Streams → List ℕ → ConnectionState × List ℕ → ConnectionState × List ℕ → Type 0
Serves streams [] v w = w ≡ v
Serves streams (b ∷ bs) v w = (mid : ConnectionState × List ℕ) × TakesByte streams b v mid × Serves streams bs mid w

-- the result of an event
abbrev pub Outcome : Type 0
Outcome = Result Reply HubFault

-- a response without bytes
abbrev pub no_bytes : Reply
no_bytes = record { bytes = []; close = false }

-- the end isn't marked yet
abbrev pub is_open_end : StreamEnd → Bool
is_open_end ending.Open = true
is_open_end ending.Good = false
is_open_end (ending.Faulty f) = false

-- how a stream has ended, by the answer to marking its end
abbrev pub ending_by : Result (Unit {0}) FileFault → StreamEnd
ending_by (Ok u) = ending.Good
ending_by (Err f) = ending.Faulty f

-- the value of a borrowed stream
abbrev pub lent_source : Option (Bor Source) → Option Source
lent_source o = option_map (λ s. s.now) o

-- the streams and the connections of a hub
pub record HubState : Type 0 where
  pub streams : Streams
  pub connections : List Connection

pub one_is_in_range : (0 < 1) × (1 ≤ 4096)
one_is_in_range = (lit< tt, lit≤ tt)

-- the limits of a single stream: those of the hub, except that `cache` is 1, because a stream keeps no pictures
abbrev pub stream_limits : Limits → Limits
stream_limits limits = record {
  pixels = limits.pixels;
  packet_bytes = limits.packet_bytes;
  packets = limits.packets;
  cache = 1;
  pixels_in_range = limits.pixels_in_range;
  packet_bytes_in_range = limits.packet_bytes_in_range;
  packets_in_range = limits.packets_in_range;
  cache_in_range = one_is_in_range;
}

-- a new stream
abbrev pub new_source : Limits → Source
new_source limits = record { stream = fresh_stream (stream_limits limits); end = ending.Open }

-- a new hub: streams with these names, without bytes, shown as WebP files too or not, and no connections
abbrev pub new_hub_state : Bool → List (List ℕ) → Limits → HubState
new_hub_state webp names limits = record {
  streams = record { names = names; sources = map (λ _. new_source limits) names; webp = webp };
  connections = [];
}

-- a new hub that shows no WebP files
abbrev pub initial_hub : List (List ℕ) → Limits → HubState
initial_hub names limits = new_hub_state false names limits

-- the state of the connection with this number
abbrev pub connection_state_of : ℕ → List Connection → Option ConnectionState
connection_state_of c [] = None
connection_state_of c (x ∷ xs) = if x.number == c then Some x.state_of_connection else connection_state_of c xs

-- all connections except the one with this number
abbrev pub without_connection : ℕ → List Connection → List Connection
without_connection c xs = filter (λ x. not (x.number == c)) xs

-- the connections with a new state for the one with this number
abbrev pub with_connection_state : ℕ → ConnectionState → List Connection → List Connection
with_connection_state c state_of_connection [] = []
with_connection_state c state_of_connection (x ∷ xs) = if x.number == c then record {
  number = c;
  state_of_connection = state_of_connection;
} ∷ xs else x ∷ with_connection_state c state_of_connection xs

-- the stream after a piece, and the answer: it has ended, or it has a fault, or it takes the piece
abbrev pub fed_by : Option FileFault → List ℕ → Source → Source × Outcome
fed_by (Some file_fault.Ended) piece source = (source, Err Ended)
fed_by (Some _) piece source = (source, Err Failed)
fed_by None piece source = (record source { stream = after_piece source.stream piece }, Ok no_bytes)

-- a stream after a piece, and the answer; a stream whose end is marked refuses it
abbrev pub fed : List ℕ → Source → Source × Outcome
fed piece source = if is_open_end source.end then fed_by (stream_refusal source.stream) piece source else
    (source, Err Ended)

-- the stream after its end is marked, and the answer
abbrev pub ended_source : Source → Source × Outcome
ended_source source =
    if is_open_end source.end
    then (
      record {
        stream = stream_after_end source.stream;
        end = ending_by
            (finish_answer source.stream.reading);
      },
      Ok no_bytes,
    )
    else (source, Err Ended)

-- the effect of f on one stream of the hub
abbrev pub at_source : (Source → Source × Outcome) → ℕ → Streams → Option Source → Streams × Outcome
at_source f k streams None = (streams, Err UnknownStream)
at_source f k streams (Some source) = (
  record streams { sources = slice_set streams.sources k (f source).0 },
  (f source).1,
)

-- the effect of f on the stream at a place, if there is one
abbrev pub at_place : (Source → Source × Outcome) → Streams → Option ℕ → Streams × Outcome
at_place f streams None = (streams, Err UnknownStream)
at_place f streams (Some k) = at_source f k streams (slice_get streams.sources k)

-- the effect of f on the stream with this name, if there is one
abbrev pub at_name : (Source → Source × Outcome) → List ℕ → Streams → Streams × Outcome
at_name f name streams = at_place f streams (name_index streams.names name)

-- the state of a connection after a piece of its bytes, and the answer
abbrev pub Gets : Streams → List ℕ → ConnectionState → ConnectionState × Outcome → Type 0
Gets streams piece state_of_connection r =
    Chosen state_of_connection.closed
    (r ≡ (state_of_connection, Err Failed))
    ((w : ConnectionState × List ℕ) × Serves streams piece (state_of_connection, []) w
    × (r ≡ (w.0, Ok (record { bytes = w.1; close = w.0.closed }))))

-- the hub with these streams, and the answer
abbrev pub with_streams : HubState → Streams × Outcome → HubState × Outcome
with_streams s r = (record { streams = r.0; connections = s.connections }, r.1)

-- the hub with these connections, and the answer
abbrev pub with_connections : HubState → List Connection × Outcome → HubState × Outcome
with_connections s r = (record { streams = s.streams; connections = r.0 }, r.1)

-- the state of a new connection
abbrev pub new_connection_state : ConnectionState
new_connection_state = record { pending = []; closed = false }

-- the connections after `Open`, and the answer
abbrev pub opened : ℕ → List Connection → Option ConnectionState → List Connection × Outcome
opened c xs (Some state_of_connection) = (xs, Err AlreadyOpen)
opened c xs None = if nat_lt (length xs) 64 then (
  xs ++ record { number = c; state_of_connection = new_connection_state }
      ∷ [],
  Ok no_bytes,
) else (xs, Err TooMany)

-- the connections after a piece of bytes, and the answer
abbrev pub Asks : Streams → ℕ → List ℕ → List Connection → Option ConnectionState → List Connection × Outcome → Type 0
Asks streams c piece xs None r = r ≡ (xs, Err UnknownConn)
Asks streams c piece xs (Some state_of_connection) r = (g : ConnectionState × Outcome)
    × Gets streams piece state_of_connection g × (r ≡ (with_connection_state c g.0 xs, g.1))

-- the connection exists, and the hub has not closed it
abbrev pub is_open : Option ConnectionState → Bool
is_open None = false
is_open (Some state_of_connection) = not state_of_connection.closed

-- the connections after `Shut`, and the answer
abbrev pub shut : ℕ → List Connection → Option ConnectionState → List Connection × Outcome
shut c xs None = (xs, Err UnknownConn)
shut c xs (Some state_of_connection) = (without_connection c xs, Ok no_bytes)

-- one event: the state after it, and the answer, unless memory runs out
abbrev pub HubStep : Event → HubState → HubState × Outcome → Type 0
HubStep (Feed name piece) s r = r ≡ with_streams s (at_name (fed piece) name s.streams)
HubStep (End name) s r = r ≡ with_streams s (at_name ended_source name s.streams)
HubStep (Open c) s r = r ≡ with_connections s (opened c s.connections (connection_state_of c s.connections))
HubStep (Bytes c piece) s r = Asks s.streams c piece s.connections (connection_state_of c s.connections)
    (r.0.connections, r.1)
    × (r.0.streams ≡ s.streams)
HubStep (Shut c) s r = r ≡ with_connections s (shut c s.connections (connection_state_of c s.connections))

-- the event would be accepted
abbrev pub IsFine : Event → HubState → Type 0
IsFine (Feed name piece) s = IsOk (at_name (fed piece) name s.streams).1
IsFine (End name) s = ⊥
IsFine (Open c) s = IsOk (opened c s.connections (connection_state_of c s.connections)).1
IsFine (Bytes c piece) s = is_open (connection_state_of c s.connections) ≡ true
IsFine (Shut c) s = ⊥

-- the state after memory runs out: a connection whose bytes were handled is closed
abbrev pub after_memory : Event → HubState → HubState
after_memory (Bytes c piece) s = record {
  streams = s.streams;
  connections = with_connection_state c (record { pending = []; closed = true }) s.connections;
}
after_memory _ s = s

-- memory runs out only for events that would be accepted otherwise, and that need memory
pub record IsRefusedMemory (old : HubState) (e : Event) (new : HubState) : Type 0 where
  pub fine : IsFine e old
  pub after : new ≡ after_memory e old

-- one event with its answer
abbrev pub IsStep : HubState → Event → Outcome → HubState → Type 0
IsStep old e o new = (o ≡ Err Memory → IsRefusedMemory old e new) × (o ≢ Err Memory → HubStep e old (new, o))

-- i is the index of the connection with this number
pub record IsPlaceOf (c : ℕ) (xs : List Connection) (i : ℕ) : Type 0 where
  pub there : i < length xs
  pub number : (d : Connection) → (slice_index_or xs i d).number ≡ c
  pub state_of_connection : (d : Connection) → connection_state_of c xs
      ≡ Some (slice_index_or xs i d).state_of_connection
  pub set : (state_of_connection : ConnectionState) → slice_set xs i
      (record { number = c; state_of_connection = state_of_connection })
      ≡ with_connection_state c state_of_connection xs

-- each cached picture is the answer of the stream with its number
abbrev pub AreKept : List Source → List CacheEntry → Type 0
AreKept sources entries = (k : ℕ) (s : Source) → slice_get sources k ≡ Some s → AreAnswersOf k s.stream entries
