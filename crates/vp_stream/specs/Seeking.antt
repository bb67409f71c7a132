-- The answer for packet n alone, the key packet from which it can be decoded, and the number of packets decoded for it
-- (RFC 6386, chapter 9.1). Pinned by the tests `frames_out_of_order`, `no_key_packet`, `hidden_packet` and
-- `empty_packets`.
use Rattle.std.specs.Prelude.{◌≡◌, ◌≤◌, ◌<◌, ◌+◌, ◌-◌, ◌^◌, ◌%◌, ◌==◌, ◌&&◌, ℕ, zero, suc, min, Bool, false, nat_le}
use Rattle.std.specs.Prelude.{nat_lt, List, [], ◌∷◌, length, slice_get, slice_index, slice_index_or, Option, Some, None}
use Rattle.std.specs.Prelude.{Result, Ok, Err, if◌then◌else◌}
use Rattle.std.specs.Option.{unwrap_or}
use Rattle.vp_base.specs.declared.limits.Limits.{Limits}
use Rattle.vp_base.specs.Image.{i420}
use Rattle.vp_head.specs.declared.fault.PacketFault.{PacketFault}
use Rattle.vp_head.specs.declared.fields.Tag.{Tag}
use Rattle.vp_head.specs.declared.fields.KeyTag.{KeyTag}
use Rattle.vp_head.specs.Tag.{IsKeyPacket, tag_of}
use Rattle.vp_ivf.specs.declared.packet.Packet.{Packet}
use Rattle.vp_decode.specs.Step.{DecoderState, step}
use Rattle.vp_decode.specs.Step.{Answer as StepAnswer}
use Rattle.vp_decode.specs.Step as step_is
use Rattle.vp_stream.specs.declared.answer.Answer.{Answer}
use Rattle.vp_stream.specs.declared.answer.Answer.TheVariants as code
use Rattle.vp_stream.specs.Answers.{answers_from}

-- ---- the answer for a packet

-- an answer by value: a shown picture has a width, a height and I420 pixels
pub data AnswerValue : Type 0 where
  Shown : ℕ → ℕ → List ℕ → AnswerValue
  Hidden : AnswerValue
  Fault : PacketFault → AnswerValue
  NoPacket : AnswerValue

-- the value of an answer in the code
abbrev pub answer_value : Answer → AnswerValue
answer_value (code.Shown dim bytes) = Shown dim.w dim.h bytes
answer_value code.Hidden = Hidden
answer_value (code.Fault f) = Fault f
answer_value code.NoPacket = NoPacket

-- the value of the answer of the packet step
abbrev pub answer_values : StepAnswer → AnswerValue
answer_values (step_is.Shown p) = Shown p.width p.height (i420 p)
answer_values step_is.Hidden = Hidden
answer_values (step_is.Fault f) = Fault f

-- NoPacket without an answer
abbrev pub answer_or_none : Option StepAnswer → AnswerValue
answer_or_none (Some a) = answer_values a
answer_or_none None = NoPacket

-- the answer for packet n when all packets are decoded one after another, the first one without a state
abbrev pub answer_at : Limits → List Packet → ℕ → AnswerValue
answer_at limits packets n = answer_or_none (slice_get (answers_from limits None packets) n)

-- the state after a list of packets
abbrev pub state_after_packets : Limits → Option DecoderState → List Packet → Option DecoderState
state_after_packets limits state [] = state
state_after_packets limits state (p ∷ ps) = state_after_packets limits (step limits state p.bytes).0 ps

-- ---- key packets (chapter 9.1): three bytes or more, and the first byte is even

-- there is a key packet
abbrev pub HasKey : Option Packet → Type 0
HasKey (Some p) = IsKeyPacket p.bytes
HasKey None = ⊥

-- packet k is a key packet
abbrev pub IsKeyAt : List Packet → ℕ → Type 0
IsKeyAt packets k = HasKey (slice_get packets k)

-- k is the number of the last key packet up to n, or there is none
abbrev pub IsKeyBefore : List Packet → ℕ → Option ℕ → Type 0
IsKeyBefore packets n (Some k) = (k ≤ n) × IsKeyAt packets k × ((j : ℕ) → k < j → j ≤ n → ¬ IsKeyAt packets j)
IsKeyBefore packets n None = (k : ℕ) → k ≤ n → ¬ IsKeyAt packets k

-- whether these bytes are a key packet
abbrev pub is_key : List ℕ → Bool
is_key packet = nat_le 3 (length packet) && slice_index packet 0 % 2 == 0

-- whether there is a key packet
abbrev pub has_key : Option Packet → Bool
has_key (Some p) = is_key p.bytes
has_key None = false

-- the number of the last key packet up to n
unfoldable pub key_before : List Packet → ℕ → Option ℕ
key_before packets zero = if has_key (slice_get packets zero) then Some zero else None
key_before packets (suc n) = if has_key (slice_get packets (suc n)) then Some (suc n) else key_before packets n

-- keys has, for each packet, the number of the last key packet up to it
pub record AreKeys (packets : List Packet) (keys : List (Option ℕ)) : Type 0 where
  pub long : length keys ≡ length packets
  pub each : (k : ℕ) → k < length packets → slice_index_or keys k None ≡ key_before packets k

-- ---- the size in pixels that a key packet gives: width and height

-- the size in the key part of a tag
abbrev pub size_in_key : Option KeyTag → Option (ℕ × ℕ)
size_in_key (Some key) = Some (key.dim.w, key.dim.h)
size_in_key None = None

-- the size in a tag
abbrev pub size_in : Result Tag PacketFault → Option (ℕ × ℕ)
size_in (Ok tag) = size_in_key tag.key
size_in (Err f) = None

-- the size in a key packet; None for other packets
abbrev pub size_in_packet : Limits → Option Packet → Option (ℕ × ℕ)
size_in_packet limits (Some p) = size_in (tag_of limits p.bytes)
size_in_packet limits None = None

-- the size in packet k
abbrev pub size_at : Limits → List Packet → Option ℕ → Option (ℕ × ℕ)
size_at limits packets (Some k) = size_in_packet limits (slice_get packets k)
size_at limits packets None = None

-- ---- the packets decoded for packet n

-- decoding starts at the last key packet, or at the packet itself if there is none
abbrev pub seek_start : List Packet → ℕ → ℕ
seek_start packets n = unwrap_or (key_before packets n) n

-- the number of packets decoded: those from there to n, or 0 if there is no packet n
unfoldable pub work_of : List Packet → ℕ → ℕ
work_of packets n = if nat_lt n (length packets) then n - seek_start packets n + 1 else 0

-- a count that saturates at the greatest 64-bit number
abbrev pub saturating_count : ℕ → ℕ → ℕ
saturating_count work more = min (work + more) (2 ^ 64 - 1)
