-- Damage that no fault names: a partition that is read past its end (RFC 6386, chapter 7.3, appends zeros there).
-- Pinned by the test `corrupt_frames`.
use Rattle.std.specs.Prelude.{ℕ, Bool, false, ◌||◌, List, [], ◌∷◌, map, Option, Result, Ok, Err}
use Rattle.std.specs.List.{list_any}
use Rattle.vp_bool.specs.Bools.{State, initial_state}
use Rattle.vp_base.specs.declared.limits.Limits.{Limits}
use Rattle.vp_head.specs.declared.fault.PacketFault.{PacketFault}
use Rattle.vp_decode.specs.MacroblockMaps.{maps_read}
use Rattle.vp_decode.specs.Frame.{FrameInfo, all_tokens_read}
use Rattle.vp_decode.specs.Step.{DecoderState, ParsedPacket, parsed, maps_before, frame_info_of}
use Rattle.vp_decode.specs.declared.decoder.OnFault.{OnFault}
use Rattle.vp_decode.specs.declared.decoder.OnFault.TheVariants as on_fault
use Rattle.vp_decode.specs.Step.{Answer, step}
use Rattle.vp_decode.specs.Keeping.{step_keeping}

-- the first partition after the modes and the motion of all macroblocks
abbrev pub first_after : ParsedPacket → State
first_after o = (maps_read o.header (maps_before o.context.modes) o.first).1

-- the token partitions after the tokens of all rows
abbrev pub tokens_after : FrameInfo → List State → List State
tokens_after f partitions = (all_tokens_read f partitions).1

-- whether any of these partitions is read past its end
abbrev pub any_past : List State → Bool
any_past partitions = list_any (λ s. s.past) partitions

-- whether a partition of the frame is read past its end
unfoldable pub is_corrupt : ParsedPacket → Bool
is_corrupt o = (first_after o).past || any_past (tokens_after (frame_info_of o) (map initial_state o.partitions))

-- a packet with a fault has no frame
abbrev pub corrupt_in : Result ParsedPacket PacketFault → Bool
corrupt_in (Err f) = false
corrupt_in (Ok o) = is_corrupt o

-- whether the frame in a packet is corrupt; an empty packet has none
unfoldable pub corrupt : Limits → Option DecoderState → List ℕ → Bool
corrupt limits state [] = false
corrupt limits state (b ∷ bs) = corrupt_in (parsed limits state (b ∷ bs))

-- the packet step that drops the state after a fault, or the one that keeps it
abbrev pub step_by : OnFault → Limits → Option DecoderState → List ℕ → Option DecoderState × Answer
step_by on_fault.Forget = step
step_by on_fault.Keep = step_keeping
