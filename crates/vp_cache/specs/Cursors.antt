-- Cursors of streams: which of them goes on at a packet, where they are afterwards, and the packets decoded. Pinned
-- by the tests `readers_keep_their_cursors` and `packets_in_order_cost_one_each`.
use Rattle.std.specs.Prelude.{◌≡◌, ◌+◌, ◌==◌, ◌&&◌, ℕ, min, max, Bool, nat_le, nat_lt, List, [], ◌∷◌, length, take}
use Rattle.std.specs.Prelude.{Option, Some, None, Contains, if◌then◌else◌}
use Rattle.vp_base.specs.declared.limits.Limits.{Limits}
use Rattle.vp_ivf.specs.declared.packet.Packet.{Packet}
use Rattle.vp_stream.specs.Seeking.{seek_start, work_of}
use Rattle.vp_stream.specs.Stream.{Stream as StreamState}
use Rattle.vp_stream.specs.Cursor.{Cursor, IsCursorOf, initial_cursor, cursor_behind, work_from}
use Rattle.vp_cache.specs.Cache.{CachedPicture}

-- the number of a stream, and one of its cursors
abbrev pub CursorEntry : Type 0
CursorEntry = ℕ × Cursor

-- cursors, the most recently used one first; the maximum number of them; and the limits of their streams
pub record Cursors : Type 0 where
  pub entries : List CursorEntry
  pub capacity : ℕ
  pub limits : Limits

-- no cursors yet
abbrev pub no_cursors : ℕ → Limits → Cursors
no_cursors capacity limits = record { entries = []; capacity = capacity; limits = limits }

-- each entry with this stream number is a cursor of the stream
pub record AreCursorsOf (number : ℕ) (stream : StreamState) (entries : List CursorEntry) : Type 0 where
  pub each : (e : CursorEntry) → Contains entries e → e.0 ≡ number → IsCursorOf e.1 stream

-- ---- the cursor that goes on at a packet

-- a cursor of this stream that is past `start` to `end` packets
abbrev pub is_between : ℕ → ℕ → ℕ → CursorEntry → Bool
is_between number start end e = e.0 == number && (nat_le start e.1.next && nat_le e.1.next end)

-- the greater one of two numbers, one of which may not exist
abbrev pub greater : ℕ → Option ℕ → Option ℕ
greater a None = Some a
greater a (Some b) = Some (max a b)

-- the greatest number of packets that one of these cursors is past
abbrev pub nearest_between : ℕ → ℕ → ℕ → List CursorEntry → Option ℕ
nearest_between number start end [] = None
nearest_between number start end (e ∷ es) =
    if is_between number start end e then greater e.1.next (nearest_between number start end es)
    else nearest_between number start end es

-- The nearest usable cursor for packet n goes on, if there is one. It can be used if it is between the last key
-- packet and the place after packet n.
abbrev pub nearest : ℕ → List Packet → ℕ → List CursorEntry → Option ℕ
nearest number packets n entries = nearest_between number (seek_start packets n) (n + 1) entries

-- a cursor of this stream that is past this number of packets
abbrev pub stands_behind : ℕ → ℕ → CursorEntry → Bool
stands_behind number next e = e.0 == number && e.1.next == next

-- the entries without the first one at that place
abbrev pub without_first : ℕ → ℕ → List CursorEntry → List CursorEntry
without_first number next [] = []
without_first number next (e ∷ es) = if stands_behind number next e then es else e ∷ without_first number next es

-- the entries without the cursor that goes on
abbrev pub without : ℕ → Option ℕ → List CursorEntry → List CursorEntry
without number None entries = entries
without number (Some next) entries = without_first number next entries

-- ---- the cursors after a request

-- The cursor that was used moves to the front. If it is a new one and there are too many, then the least recently used
-- one is dropped.
abbrev pub in_front : Cursors → ℕ → List Packet → ℕ → Cursor → Cursors
in_front old number packets n cursor = record old {
  entries = take old.capacity ((number, cursor) ∷ without number (nearest number packets n old.entries) old.entries);
}

-- it is past packet n; without a packet n nothing changes
abbrev pub after_picture : Cursors → ℕ → StreamState → ℕ → Cursors
after_picture old number stream n =
    if nat_lt n (length stream.reading.packets)
    then in_front old number stream.reading.packets n (cursor_behind stream.limits stream.reading.packets (n + 1))
    else old

-- ---- the number of decoded packets

-- the least number of packets decoded for packet n by one of the stream's cursors, or by none
abbrev pub least_work : ℕ → List Packet → ℕ → List CursorEntry → ℕ
least_work number packets n [] = work_of packets n
least_work number packets n (e ∷ es) =
    if e.0 == number then min (work_from packets e.1.next n) (least_work number packets n es)
    else least_work number packets n es

-- ---- with a cache

-- a cache hit leaves the cursors as they are
abbrev pub unless_cached : Option CachedPicture → Cursors → Cursors → Cursors
unless_cached (Some p) old new = old
unless_cached None old new = new

-- a cache hit decodes nothing
abbrev pub work_with : Option CachedPicture → ℕ → List Packet → ℕ → List CursorEntry → ℕ
work_with (Some p) number packets n entries = 0
work_with None number packets n entries = least_work number packets n entries

-- ---- for private functions

-- the cursor of the list at that place, or a new one
abbrev pub IsChosen : Limits → ℕ → Option ℕ → List CursorEntry → Cursor → Type 0
IsChosen limits number None entries c = c ≡ initial_cursor limits
IsChosen limits number (Some next) entries c = (c.next ≡ next) × Contains entries (number, c)
