-- The statements of the laws on the cursor that goes on at a packet: which one it is, what it saves, and where it
-- is afterwards.
use Rattle.std.specs.Prelude.{◌≡◌, ◌≢◌, ◌+◌, ◌-◌, ◌<◌, ◌≤◌, ℕ, min, List, Some, None, Contains, length, slice_get}
use Rattle.vp_ivf.specs.declared.packet.Packet.{Packet}
use Rattle.vp_stream.specs.Seeking.{answer_at, seek_start, work_of}
use Rattle.vp_stream.specs.Stream.{Stream as StreamState}
use Rattle.vp_stream.specs.Cursor.{Cursor, cursor_behind}
use Rattle.vp_cache.specs.Cursors.{Cursors, CursorEntry, AreCursorsOf, nearest, after_picture, least_work}

-- ---- which cursor goes on

-- a cursor of this stream is past `next` packets, between the last key packet and the place after packet n
pub record IsUsable (number : ℕ) (packets : List Packet) (n : ℕ) (entries : List CursorEntry) (next : ℕ) : Type 0 where
  pub cursor : Cursor
  pub listed : Contains entries (number, cursor)
  pub stands : cursor.next ≡ next
  pub from_key : seek_start packets n ≤ next
  pub to_packet : next ≤ n + 1

-- the cursor that goes on is usable, and none of the usable ones is past more packets
abbrev pub NearestIsUsable : Type 0
NearestIsUsable = (number : ℕ) (packets : List Packet) (n : ℕ) (entries : List CursorEntry) (next : ℕ)
    → nearest number packets n entries ≡ Some next
    → IsUsable number packets n entries next
    × ((other : ℕ) → IsUsable number packets n entries other → other ≤ next)

-- where none goes on, none is usable
abbrev pub NoneIsUsable : Type 0
NoneIsUsable = (number : ℕ) (packets : List Packet) (n : ℕ) (entries : List CursorEntry) (next : ℕ)
    → nearest number packets n entries ≡ None → ¬ IsUsable number packets n entries next

-- ---- what it costs

-- the packets from the cursor's next one to n are decoded
abbrev pub NearestGoesOn : Type 0
NearestGoesOn = (number : ℕ) (packets : List Packet) (n : ℕ) (entries : List CursorEntry) (next : ℕ)
    → n < length packets → nearest number packets n entries ≡ Some next
    → least_work number packets n entries ≡ n + 1 - next

-- without a usable cursor, those from the last key packet on
abbrev pub NoneStartsAtTheKey : Type 0
NoneStartsAtTheKey = (number : ℕ) (packets : List Packet) (n : ℕ) (entries : List CursorEntry)
    → nearest number packets n entries ≡ None → least_work number packets n entries ≡ work_of packets n

-- cursors of other streams save nothing
abbrev pub OthersSaveNothing : Type 0
OthersSaveNothing = (number : ℕ) (packets : List Packet) (n : ℕ) (entries : List CursorEntry)
    → ((e : CursorEntry) → Contains entries e → e.0 ≢ number)
    → least_work number packets n entries ≡ work_of packets n

-- ---- where it is afterwards

-- the first entry is the stream's cursor past packet n
abbrev pub UsedIsFirst : Type 0
UsedIsFirst = (old : Cursors) (number : ℕ) (s : StreamState) (n : ℕ) → 0 < old.capacity → n < length s.reading.packets
    → slice_get (after_picture old number s n).entries 0
    ≡ Some (number, cursor_behind s.limits s.reading.packets (n + 1))

-- a cursor that goes on is moved, so there are as many as before
abbrev pub UsedIsMoved : Type 0
UsedIsMoved = (old : Cursors) (number : ℕ) (s : StreamState) (n next : ℕ) → length old.entries ≤ old.capacity
    → nearest number s.reading.packets n old.entries ≡ Some next
    → length (after_picture old number s n).entries ≡ length old.entries

-- else there is one more, while there is room
abbrev pub NewOneComes : Type 0
NewOneComes = (old : Cursors) (number : ℕ) (s : StreamState) (n : ℕ) → n < length s.reading.packets
    → nearest number s.reading.packets n old.entries ≡ None
    → length (after_picture old number s n).entries ≡ min old.capacity (length old.entries + 1)

-- a cursor past packet n holds the stream's answer for packet n
abbrev pub CursorsHoldAnswers : Type 0
CursorsHoldAnswers = (number : ℕ) (s : StreamState) (entries : List CursorEntry) (c : Cursor) (n : ℕ)
    → AreCursorsOf number s entries → Contains entries (number, c) → c.next ≡ n + 1
    → c.last ≡ answer_at s.limits s.reading.packets n
