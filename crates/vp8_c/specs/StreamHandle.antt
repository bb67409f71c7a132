-- The file of a handle with its cursor, and the packets decoded for requests. Pinned by the test
-- `packets_in_order_are_decoded_once`.
use Rattle.std.specs.Prelude.{◌≡◌, ◌≢◌, ◌≤◌, ℕ, Option, Some, None, option_and_then}
use Rattle.vp_stream.specs.Seeking.{answer_value, saturating_count, work_of}
use Rattle.vp_stream.specs.Seeking as seeking
use Rattle.vp_stream.specs.Stream.{IsStreamAfter, empty_stream_history, initial_stream}
use Rattle.vp_stream.specs.Cursor.{initial_cursor, next_after, work_from}
use Rattle.vp8_c.specs.declared.status.TheConstants.{MEMORY}
use Rattle.vp8_c.specs.declared.stream_handle.StreamHandle.{StreamHandle}
use Rattle.vp8_c.specs.declared.handle_value.HandleValue.{HandleValue}
use Rattle.vp8_c.specs.declared.handle_value.HandleValue.TheVariants.{Decoder, Stream, Encoder}
use Rattle.vp8_c.specs.declared.handle.Handle.{Handle}
use Rattle.vp8_c.specs.Handle.{handle_value_in}

-- the value is a file with its cursor
abbrev pub stream_handle_of : HandleValue → Option StreamHandle
stream_handle_of (Decoder d) = None
stream_handle_of (Stream a) = Some a
stream_handle_of (Encoder e) = None

-- the file of a handle with its cursor, if it is one
abbrev pub stream_handle_in : Handle → Option StreamHandle
stream_handle_in h = option_and_then stream_handle_of (handle_value_in h)

-- no packet was requested: the cursor is before the first packet, and none was decoded
pub record IsUnasked (a : StreamHandle) : Type 0 where
  pub cursor : a.cursor ≡ initial_cursor a.file.stream.limits
  pub decoded : a.decoded ≡ 0

-- a file without any bytes under the default limits, before any request
pub record IsEmpty (a : StreamHandle) : Type 0 where
  pub pixels : a.file.stream.limits.pixels ≡ 16777216
  pub packet_bytes : a.file.stream.limits.packet_bytes ≡ 16777216
  pub packets : a.file.stream.limits.packets ≡ 1048576
  pub stream : a.file.stream ≡ initial_stream a.file.stream.limits
  pub history : IsStreamAfter a.file.stream empty_stream_history
  pub answer : answer_value a.file.answer ≡ seeking.NoPacket
  pub unasked : IsUnasked a

-- the cursor and the number of packets decoded for requests are unchanged
abbrev pub KeepsCursor : StreamHandle → StreamHandle → Type 0
KeepsCursor old new = (new.cursor ≡ old.cursor) × (new.decoded ≡ old.decoded)

-- ---- the packets decoded for a request

-- Packet n was requested: the cursor is past it, and the decoded packets are those from where the cursor was,
-- or from the last key packet on. Or memory ran out, and the cursor is at the start. In all cases no more
-- packets are decoded than without a cursor.
pub record Seeks (n status : ℕ) (old new : StreamHandle) : Type 0 where
  pub next : status ≢ MEMORY → new.cursor.next ≡ next_after old.file.stream.reading.packets old.cursor.next n
  pub decoded : status ≢ MEMORY → new.decoded
      ≡ saturating_count old.decoded (work_from old.file.stream.reading.packets old.cursor.next n)
  pub cleared : status ≡ MEMORY → new.cursor ≡ initial_cursor old.file.stream.limits
  pub most : new.decoded ≤ saturating_count old.decoded (work_of old.file.stream.reading.packets n)
