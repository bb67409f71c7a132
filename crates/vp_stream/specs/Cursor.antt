-- A cursor: a decoder that is past the first packets of a stream, so that packets in order are decoded once each
-- (RFC 6386, chapter 5). Pinned by the test `frames_through_a_cursor`.
use Rattle.std.specs.Prelude.{◌≡◌, ◌≤◌, ◌+◌, ◌-◌, ◌||◌, ℕ, List, [], ◌∷◌, length, take, Option, Some, None, nat_lt}
use Rattle.std.specs.Prelude.{if◌then◌else◌}
use Rattle.vp_base.specs.declared.limits.Limits.{Limits}
use Rattle.vp_base.specs.Image.{Image, i420}
use Rattle.vp_ivf.specs.declared.packet.Packet.{Packet}
use Rattle.vp_decode.specs.declared.decoder.Outcome.{Outcome}
use Rattle.vp_decode.specs.declared.decoder.Outcome.TheVariants as code
use Rattle.vp_decode.specs.Step.{DecoderState, step}
use Rattle.vp_stream.specs.Seeking.{AnswerValue, Shown, Hidden, Fault, NoPacket, answer_values, seek_start}
use Rattle.vp_stream.specs.Stream.{Stream}

-- the limits, the number of packets that the cursor is past, the decoder's state, and the answer for the last of
-- these packets (NoPacket if there are none)
pub record Cursor : Type 0 where
  pub limits : Limits
  pub next : ℕ
  pub state : Option DecoderState
  pub last : AnswerValue

-- a decoder without a state, before packet n
abbrev pub cursor_before : Limits → ℕ → Cursor
cursor_before limits n = record { limits = limits; next = n; state = None; last = NoPacket }

-- a new cursor is at the start
abbrev pub initial_cursor : Limits → Cursor
initial_cursor limits = cursor_before limits 0

-- the cursor after one more packet, by the packet step
abbrev pub cursor_after : Cursor → List ℕ → Cursor
cursor_after c packet = record {
  limits = c.limits;
  next = c.next + 1;
  state = (step c.limits c.state packet).0;
  last = answer_values (step c.limits c.state packet).1;
}

-- the cursor after a list of packets, one after another
abbrev pub cursor_after_packets : Cursor → List Packet → Cursor
cursor_after_packets c [] = c
cursor_after_packets c (p ∷ ps) = cursor_after_packets (cursor_after c p.bytes) ps

-- the cursor of all packets before packet n, decoded from the first one on
abbrev pub cursor_behind : Limits → List Packet → ℕ → Cursor
cursor_behind limits packets n = cursor_after_packets (initial_cursor limits) (take n packets)

-- The cursor is past packets of this stream: it is as if it had decoded all of them, from the first one on.
pub record IsCursorOf (c : Cursor) (s : Stream) : Type 0 where
  pub within : c.next ≤ length s.reading.packets
  pub decoded : c ≡ cursor_behind s.limits s.reading.packets c.next

-- ---- the packets decoded for packet n

-- Decoding starts at the cursor's next packet. If the cursor is before the last key packet, or past more than
-- packet n, then decoding starts at the key packet, as without a cursor.
abbrev pub cursor_start : List Packet → ℕ → ℕ → ℕ
cursor_start packets next n =
    if nat_lt next (seek_start packets n) || nat_lt (n + 1) next then seek_start packets n else next

-- the number of packets decoded: those from there to n, or 0 if there is no packet n
unfoldable pub work_from : List Packet → ℕ → ℕ → ℕ
work_from packets next n = if nat_lt n (length packets) then n + 1 - cursor_start packets next n else 0

-- the cursor's next packet after packet n; without a packet n it doesn't move
unfoldable pub next_after : List Packet → ℕ → ℕ → ℕ
next_after packets next n = if nat_lt n (length packets) then n + 1 else next

-- ---- for private functions

-- the cursor, or a decoder without a state before packet `start`, if the cursor isn't between it and `end`
abbrev pub placed : Limits → ℕ → ℕ → Cursor → Cursor
placed limits start end c = if nat_lt c.next start || nat_lt end c.next then cursor_before limits start else c

-- the value of the answer, given the picture that the decoder shows and the outcome of the last packet
abbrev pub shown_value : Option Image → Outcome → AnswerValue
shown_value (Some p) o = Shown p.width p.height (i420 p)
shown_value None code.Shown = Hidden
shown_value None code.Hidden = Hidden
shown_value None (code.Fault f) = Fault f

-- the same, or NoPacket before the first packet
abbrev pub last_value : Option Image → Option Outcome → AnswerValue
last_value shown None = NoPacket
last_value shown (Some o) = shown_value shown o
