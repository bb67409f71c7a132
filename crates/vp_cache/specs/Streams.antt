-- The statements of the laws that cached pictures and cursors remain correct while streams grow, and of the laws on the
-- packets that cursors save.
use Rattle.std.specs.Prelude.{◌≡◌, ◌≢◌, ◌⊎◌, ◌+◌, ◌<◌, ◌≤◌, ℕ, zero, suc, List, [], Some, None, Contains, length}
use Rattle.std.specs.Prelude.{slice_get, slice_set}
use Rattle.vp_ivf.specs.declared.packet.Packet.{Packet}
use Rattle.vp_stream.specs.Seeking.{NoPacket, answer_at, work_of}
use Rattle.vp_stream.specs.Stream.{Stream as StreamState}
use Rattle.vp_stream.specs.Cursor.{Cursor, IsCursorOf, work_from}
use Rattle.vp_cache.specs.Cache.{AreAnswersOf, CacheEntry}
use Rattle.vp_cache.specs.Cursors.{Cursors, CursorEntry, AreCursorsOf, nearest, after_picture, least_work}

-- the stream has grown: only answers `NoPacket` have changed
abbrev pub IsGrown : StreamState → StreamState → Type 0
IsGrown old new = (n : ℕ) → answer_at old.limits old.reading.packets n ≢ NoPacket
    → answer_at new.limits new.reading.packets n ≡ answer_at old.limits old.reading.packets n

-- each entry is the answer of the stream with its number; streams are numbered from 0
abbrev pub AreAnswersOfAll : List StreamState → List CacheEntry → Type 0
AreAnswersOfAll streams entries = (i : ℕ) (s : StreamState) → slice_get streams i ≡ Some s → AreAnswersOf i s entries

-- entries that are correct remain correct while a stream grows
abbrev pub GrowingKeepsEntries : Type 0
GrowingKeepsEntries = (number : ℕ) (old new : StreamState) (entries : List CacheEntry)
    → IsGrown old new → AreAnswersOf number old entries → AreAnswersOf number new entries

-- entries remain correct while one stream of a list grows
abbrev pub OneGrowing : Type 0
OneGrowing = (k : ℕ) (old new : StreamState) (streams : List StreamState) (entries : List CacheEntry)
    → slice_get streams k ≡ Some old → IsGrown old new
    → AreAnswersOfAll streams entries → AreAnswersOfAll (slice_set streams k new) entries

-- ---- cursors

-- a cursor of the old stream is one of the new stream
abbrev pub KeepsCursors : StreamState → StreamState → Type 0
KeepsCursors old new = (c : Cursor) → IsCursorOf c old → IsCursorOf c new

-- each entry is a cursor of the stream with its number; streams are numbered from 0
abbrev pub AreCursorsOfAll : List StreamState → List CursorEntry → Type 0
AreCursorsOfAll streams entries = (i : ℕ) (s : StreamState) → slice_get streams i ≡ Some s → AreCursorsOf i s entries

-- cursors of a stream remain its cursors while it grows
abbrev pub GrowingKeepsCursors : Type 0
GrowingKeepsCursors = (number : ℕ) (old new : StreamState) (entries : List CursorEntry)
    → KeepsCursors old new → AreCursorsOf number old entries → AreCursorsOf number new entries

-- cursors remain those of their streams while one stream of a list grows
abbrev pub OneGrowingKeepsCursors : Type 0
OneGrowingKeepsCursors = (k : ℕ) (old new : StreamState) (streams : List StreamState) (entries : List CursorEntry)
    → slice_get streams k ≡ Some old → KeepsCursors old new
    → AreCursorsOfAll streams entries → AreCursorsOfAll (slice_set streams k new) entries

-- ---- what cursors save

-- without a cursor decoding starts at the last key packet
abbrev pub NoCursorSavesNothing : Type 0
NoCursorSavesNothing = (number : ℕ) (packets : List Packet) (n : ℕ) → least_work number packets n [] ≡ work_of packets n

-- cursors never cost more than none
abbrev pub CursorsCostNoMore : Type 0
CursorsCostNoMore = (number : ℕ) (packets : List Packet) (n : ℕ) (entries : List CursorEntry)
    → least_work number packets n entries ≤ work_of packets n

-- no cursor of the stream alone would cost less
abbrev pub NoneIsNearer : Type 0
NoneIsNearer = (number : ℕ) (packets : List Packet) (n : ℕ) (entries : List CursorEntry) (e : CursorEntry)
    → Contains entries e → e.0 ≡ number → least_work number packets n entries ≤ work_from packets e.1.next n

-- after packet n the next packet costs one packet, and packet n itself none
abbrev pub NextCostsOne : Type 0
NextCostsOne = (old : Cursors) (number : ℕ) (s : StreamState) (n : ℕ) → 0 < old.capacity
    → n + 1 < length s.reading.packets
    → least_work number s.reading.packets (n + 1) (after_picture old number s n).entries ≤ 1

abbrev pub AgainCostsNone : Type 0
AgainCostsNone = (old : Cursors) (number : ℕ) (s : StreamState) (n : ℕ) → 0 < old.capacity
    → n < length s.reading.packets
    → least_work number s.reading.packets n (after_picture old number s n).entries ≡ 0

-- while there is room, a cursor that isn't used stays where it is: readers at different places each keep one
abbrev pub OthersStay : Type 0
OthersStay = (old : Cursors) (number : ℕ) (s : StreamState) (n : ℕ) (e : CursorEntry)
    → length old.entries < old.capacity → Contains old.entries e
    → (e.0 ≢ number) ⊎ (nearest number s.reading.packets n old.entries ≢ Some e.1.next)
    → Contains (after_picture old number s n).entries e

-- where a cursor goes on, no other one is let go, also if there is no room for one more
abbrev pub NoneIsLetGo : Type 0
NoneIsLetGo = (old : Cursors) (number : ℕ) (s : StreamState) (n next : ℕ) (e : CursorEntry)
    → length old.entries ≤ old.capacity → nearest number s.reading.packets n old.entries ≡ Some next
    → Contains old.entries e → (e.0 ≢ number) ⊎ (nearest number s.reading.packets n old.entries ≢ Some e.1.next)
    → Contains (after_picture old number s n).entries e

-- where a new one comes, the others follow it in their order, so that only the least recently used one is let go
abbrev pub LastIsLetGo : Type 0
LastIsLetGo = (old : Cursors) (number : ℕ) (s : StreamState) (n i : ℕ)
    → n < length s.reading.packets → nearest number s.reading.packets n old.entries ≡ None → i + 1 < old.capacity
    → slice_get (after_picture old number s n).entries (i + 1) ≡ slice_get old.entries i

-- the packets decoded for `count` packets from packet n on, asked for in order
abbrev pub work_in_order : ℕ → StreamState → ℕ → ℕ → Cursors → ℕ
work_in_order number s n zero old = 0
work_in_order number s n (suc more) old =
    least_work number s.reading.packets n old.entries
    + work_in_order number s (n + 1) more (after_picture old number s n)

-- packets in order cost what the first one costs without a cursor at most, and one packet for each other one
abbrev pub InOrderCostsOneEach : Type 0
InOrderCostsOneEach = (old : Cursors) (number : ℕ) (s : StreamState) (n more : ℕ) → 0 < old.capacity
    → n + more < length s.reading.packets
    → work_in_order number s n (suc more) old ≤ work_of s.reading.packets n + more
