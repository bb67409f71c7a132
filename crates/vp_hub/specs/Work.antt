-- The number of packets decoded for an event, and the cache and the cursors after it. Pinned by the tests
-- `frames_out_of_order` (2, 1, then 2 or 0) and `two_readers_keep_their_cursors`.
use Rattle.std.specs.Prelude.{◌≡◌, ◌≢◌, ◌≤◌, ◌⊎◌, ◌+◌, ℕ, true, List, [], ◌∷◌, ◌++◌, Option, Some, None, Err, slice_get}
use Rattle.vp_stream.specs.Seeking.{answer_at, saturating_count}
use Rattle.vp_stream.specs.Stream.{Stream as StreamState}
use Rattle.vp_stream.specs.Cursor.{initial_cursor}
use Rattle.vp_cache.specs.Cache.{IsAfter, cached}
use Rattle.vp_cache.specs.Cache.{Cache}
use Rattle.vp_cache.specs.Cursors.{AreCursorsOf, after_picture, in_front, unless_cached, work_with}
use Rattle.vp_cache.specs.Cursors.{Cursors}
use Rattle.vp_heads.specs.declared.request.Request.{Request}
use Rattle.vp_heads.specs.declared.request.Resource.{Resource}
use Rattle.vp_heads.specs.declared.request.Resource.TheVariants as wanted
use Rattle.vp_heads.specs.Routes.{routes_of}
use Rattle.vp_heads.specs.Requests.{IsRequestFor}
use Rattle.vp_hub.specs.declared.picture_cache.Pictures.{Pictures}
use Rattle.vp_hub.specs.declared.source.Source.{Source}
use Rattle.vp_hub.specs.declared.connection.ConnectionState.{ConnectionState}
use Rattle.vp_hub.specs.declared.event.Event.{Event}
use Rattle.vp_hub.specs.declared.event.Event.TheVariants.{Bytes}
use Rattle.vp_hub.specs.declared.event.HubFault.TheVariants.{Memory}
use Rattle.vp_hub.specs.Pages.{Streams}
use Rattle.vp_hub.specs.Hub.{Chosen, Outcome, ends_head, TakesByte, HubState, connection_state_of, IsStep}

-- ---- the cursors of a hub

-- the cursors can be used for the stream with this number: they have its limits, and those with its number are cursors
-- of it
pub record AreCursorsFor (number : ℕ) (stream : StreamState) (cursors : Cursors) : Type 0 where
  pub limits : stream.limits ≡ cursors.limits
  pub entries : AreCursorsOf number stream cursors.entries

-- for each stream
abbrev pub HaveCursors : List Source → Cursors → Type 0
HaveCursors sources cursors = (k : ℕ) (s : Source) → slice_get sources k ≡ Some s → AreCursorsFor k s.stream cursors

-- ---- one request

-- the number of packets decoded for packet n of stream k: 0 for a cache hit or without such a packet, else those from
-- the nearest usable cursor on, or from the last key packet on
abbrev pub picture_cost : Option Source → ℕ → ℕ → Pictures → ℕ
picture_cost None k n pictures = 0
picture_cost (Some s) k n pictures =
    work_with (cached k n pictures.cache.entries) k s.stream.reading.packets n pictures.cursors.entries

-- the number of packets decoded for a resource
abbrev pub cost_of : Streams → Resource → Pictures → ℕ
cost_of streams (wanted.Frame k n) pictures = picture_cost (slice_get streams.sources k) k n pictures
cost_of streams (wanted.Video k n) pictures = picture_cost (slice_get streams.sources k) k n pictures
cost_of streams (wanted.Still k n scale) pictures = picture_cost (slice_get streams.sources k) k n pictures
cost_of streams _ pictures = 0

-- The pictures after it: a shown picture is the most recent entry of the cache, unless memory ran out for it. After a
-- cache miss the used cursor is the most recent one, and is past packet n.
abbrev pub IsAfterPicture : Option Source → ℕ → ℕ → Pictures → Pictures → Type 0
IsAfterPicture None k n old new = new ≡ old
IsAfterPicture (Some s) k n old new =
    IsAfter old.cache k n (cached k n old.cache.entries)
    (answer_at s.stream.limits s.stream.reading.packets n) new.cache
    × (new.cursors ≡ unless_cached (cached k n old.cache.entries) old.cursors (after_picture old.cursors k s.stream n))

-- the pictures after a request for a resource
abbrev pub IsAfterRequest : Streams → Resource → Pictures → Pictures → Type 0
IsAfterRequest streams (wanted.Frame k n) old new = IsAfterPicture (slice_get streams.sources k) k n old new
IsAfterRequest streams (wanted.Video k n) old new = IsAfterPicture (slice_get streams.sources k) k n old new
IsAfterRequest streams (wanted.Still k n scale) old new = IsAfterPicture (slice_get streams.sources k) k n old new
IsAfterRequest streams _ old new = new ≡ old

-- the pictures if memory runs out while packet n is decoded: the used cursor is at the start
abbrev pub IsCutShort : Option Source → ℕ → ℕ → Pictures → Pictures → Type 0
IsCutShort None k n old new = new ≡ old
IsCutShort (Some s) k n old new = (new.cache ≡ old.cache)
    × (new.cursors ≡ in_front old.cursors k s.stream.reading.packets n (initial_cursor s.stream.limits))

-- the pictures if memory runs out during a request: before, while, or after the packet is decoded
abbrev pub IsLeftPicture : Option Source → ℕ → ℕ → Pictures → Pictures → Type 0
IsLeftPicture source k n old new =
    (new ≡ old) ⊎ (IsCutShort source k n old new ⊎ IsAfterPicture source k n old new)

abbrev pub IsLeft : Streams → Resource → Pictures → Pictures → Type 0
IsLeft streams (wanted.Frame k n) old new = IsLeftPicture (slice_get streams.sources k) k n old new
IsLeft streams (wanted.Video k n) old new = IsLeftPicture (slice_get streams.sources k) k n old new
IsLeft streams (wanted.Still k n scale) old new = IsLeftPicture (slice_get streams.sources k) k n old new
IsLeft streams _ old new = new ≡ old

-- ---- the bytes of a connection

-- the number of packets decoded for a request, and the pictures after it
pub record IsCost (streams : Streams) (head : List ℕ) (old new : Pictures) (cost : ℕ) : Type 0 where
  pub request : Request
  pub asked : IsRequestFor (routes_of streams.webp) streams.names head request
  pub after : IsAfterRequest streams request.wanted old new
  pub cost_is : cost ≡ cost_of streams request.wanted old

-- an upper bound if memory runs out during a request; its picture may be cached or not, its cursor kept or not
pub record IsMostCost (streams : Streams) (head : List ℕ) (old new : Pictures) (cost : ℕ) : Type 0 where
  pub request : Request
  pub asked : IsRequestFor (routes_of streams.webp) streams.names head request
  pub after : IsLeft streams request.wanted old new
  pub cost_is : cost ≡ cost_of streams request.wanted old

-- a byte costs as much as the request head that it completes, else nothing
abbrev pub CostsByte : Streams → ℕ → ConnectionState → Pictures → Pictures → ℕ → Type 0
CostsByte streams b state_of_connection old new cost =
    Chosen state_of_connection.closed ((new ≡ old) × (cost ≡ 0))
    (Chosen (ends_head (state_of_connection.pending ++ b ∷ []))
    (IsCost streams (state_of_connection.pending ++ b ∷ []) old new cost) ((new ≡ old) × (cost ≡ 0)))

-- a piece, byte by byte: the connection's state and output after it, the cache after it, and the total cost
abbrev pub Costs : Streams → List ℕ → ConnectionState × List ℕ → ConnectionState × List ℕ → Pictures → Pictures → ℕ
    → Type 0
Costs streams [] v w old new cost = (w ≡ v) × (new ≡ old) × (cost ≡ 0)
Costs streams (b ∷ bs) v w old new cost =
    (mid : ConnectionState × List ℕ) × (pictures : Pictures) × (first rest : ℕ)
    × TakesByte streams b v mid × CostsByte streams b v.0 old pictures first × Costs streams bs mid w pictures new rest
    × (cost ≡ first + rest)

-- a piece of a connection, which may not exist
abbrev pub CostsPiece : Streams → List ℕ → Option ConnectionState → Pictures → Pictures → ℕ → Type 0
CostsPiece streams piece None old new cost = (new ≡ old) × (cost ≡ 0)
CostsPiece streams piece (Some state_of_connection) old new cost = (w : ConnectionState × List ℕ)
    × Costs streams piece (state_of_connection, []) w old new cost

-- ---- an event

-- the pictures after an event, and the number of packets decoded: 0 except for the bytes of a connection
abbrev pub IsWork : Event → HubState → Pictures → Pictures → ℕ → Type 0
IsWork (Bytes c piece) s old new work = CostsPiece s.streams piece (connection_state_of c s.connections) old new work
IsWork _ s old new work = (new ≡ old) × (work ≡ 0)

-- memory ran out at this byte: the cost is 0, or at most that of the request head that the byte completes
abbrev pub CostsByteAtMost : Streams → ℕ → ConnectionState → Pictures → Pictures → ℕ → Type 0
CostsByteAtMost streams b state_of_connection old new cost =
    ((new ≡ old) × (cost ≡ 0)) ⊎ ((ends_head (state_of_connection.pending ++ b ∷ []) ≡ true)
    × IsMostCost streams (state_of_connection.pending ++ b ∷ []) old new cost)

-- memory ran out inside a piece: the cost is that of the bytes before, and at most that of the next byte
pub record CostsAtMost (streams : Streams) (piece : List ℕ) (v : ConnectionState × List ℕ) (old new : Pictures)
    (work : ℕ) : Type 0 where
  pub front : List ℕ
  pub byte : ℕ
  pub back : List ℕ
  pub mid : ConnectionState × List ℕ
  pub pictures : Pictures
  pub before : ℕ
  pub last : ℕ
  pub piece_is : piece ≡ front ++ byte ∷ back
  pub costs : Costs streams front v mid old pictures before
  pub ends : CostsByteAtMost streams byte mid.0 pictures new last
  pub least : saturating_count 0 before ≤ work
  pub most : work ≤ saturating_count 0 (before + last)

-- an upper bound if memory runs out during a piece of a connection, which may not exist
abbrev pub CostsPieceAtMost : Streams → List ℕ → Option ConnectionState → Pictures → Pictures → ℕ → Type 0
CostsPieceAtMost streams piece None old new work = (new ≡ old) × (work ≡ 0)
CostsPieceAtMost streams piece (Some state_of_connection) old new work = CostsAtMost streams piece
    (state_of_connection, []) old new work

-- memory ran out during an event
abbrev pub IsWorkAtMost : Event → HubState → Pictures → Pictures → ℕ → Type 0
IsWorkAtMost (Bytes c piece) s old new work = CostsPieceAtMost s.streams piece
    (connection_state_of c s.connections) old new work
IsWorkAtMost _ s old new work = (new ≡ old) × (work ≡ 0)

-- ---- a hub: its state, its cache, its cursors, and the work of the last event
pub record Hub : Type 0 where
  pub state : HubState
  pub cache : Cache
  pub cursors : Cursors
  pub work : ℕ

-- the pictures that a hub keeps
abbrev pub pictures_of : Hub → Pictures
pictures_of h = record { cache = h.cache; cursors = h.cursors }

-- The work of an event is its cost; it saturates. If memory ran out, it is at most that cost, and at least the cost of
-- the bytes before the one at which memory ran out.
pub record IsWorked (old : Hub) (e : Event) (o : Outcome) (new : Hub) : Type 0 where
  pub work : o ≢ Err Memory → (cost : ℕ) × IsWork e old.state (pictures_of old) (pictures_of new) cost
      × (new.work ≡ saturating_count 0 cost)
  pub most : o ≡ Err Memory → IsWorkAtMost e old.state (pictures_of old) (pictures_of new) new.work

-- a run: each event with its result, its work, and the pictures after it
abbrev pub IsWorkedRun : Hub → List Event → List Outcome → Hub → Type 0
IsWorkedRun old [] [] new = new ≡ old
IsWorkedRun old (e ∷ es) (o ∷ os) new = (mid : Hub) × IsStep old.state e o mid.state × IsWorked old e o mid
    × IsWorkedRun mid es os new
IsWorkedRun old [] (o ∷ os) new = ⊥
IsWorkedRun old (e ∷ es) [] new = ⊥
