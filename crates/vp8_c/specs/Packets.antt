-- What the first bytes of a packet say (RFC 6386, chapter 9.1), and facts about the last frame, as numbers. Pinned by
-- the tests `packets_are_peeked` and `facts_of_frames_are_written`.
use Rattle.std.specs.Prelude.{ℕ, Bool, true, false, List, Option, Some, None, Result, Ok, Err, is_some, ok_or, option_map}
use Rattle.vp_base.specs.declared.limits.Limits.{Limits}
use Rattle.vp_head.specs.declared.fields.KeyTag.{KeyTag}
use Rattle.vp_head.specs.declared.fields.Tag.{Tag}
use Rattle.vp_head.specs.declared.fault.PacketFault.{PacketFault}
use Rattle.vp_head.specs.Tag.{tag_of}
use Rattle.vp_decode.specs.declared.frame_facts.FrameFacts.{FrameFacts}
use Rattle.vp8_c.specs.declared.status.TheConstants.{CLOSED, NO_PICTURE}
use Rattle.vp8_c.specs.declared.handle_value.HandleValue.{HandleValue}
use Rattle.vp8_c.specs.declared.handle_value.HandleValue.TheVariants.{Decoder, Stream, Encoder}
use Rattle.vp8_c.specs.declared.handle.Handle.{Handle}
use Rattle.vp8_c.specs.declared.packet.PacketInfo.{PacketInfo}
use Rattle.vp8_c.specs.declared.packet.FrameInfo.{FrameInfo}
use Rattle.vp8_c.specs.Arguments.{given_in, result_map}
use Rattle.vp8_c.specs.Decoding.{corrupt_in}
use Rattle.vp8_c.specs.Status.{fault_number}

-- a truth value in C
abbrev pub flag : Bool → ℕ
flag true = 1
flag false = 0

-- a value, or the number of the packet's fault
abbrev pub value_or_status : {A : Type 0} → Result A PacketFault → Result A ℕ
value_or_status (Err f) = Err (fault_number f)
value_or_status (Ok a) = Ok a

-- ---- the first bytes

-- the size in pixels of a key packet's picture; 0 for an inter packet
abbrev pub key_width : Option KeyTag → ℕ
key_width None = 0
key_width (Some key) = key.dim.w

abbrev pub key_height : Option KeyTag → ℕ
key_height None = 0
key_height (Some key) = key.dim.h

-- what a tag says
abbrev pub packet_info : Tag → PacketInfo
packet_info tag = record {
  key = flag (is_some tag.key);
  shown = flag tag.show;
  width = key_width tag.key;
  height = key_height tag.key;
}

-- what a packet's first bytes say under these limits, or the number of its fault
abbrev pub peeked : Limits → List ℕ → Result PacketInfo ℕ
peeked limits packet = result_map packet_info (value_or_status (tag_of limits packet))

-- ---- the frame

-- the facts as numbers
abbrev pub frame_info : FrameFacts → FrameInfo
frame_info f = record {
  key = flag f.key;
  version = f.version;
  shown = flag f.shown;
  width = f.width;
  height = f.height;
  horizontal_scale = f.horizontal_scale;
  vertical_scale = f.vertical_scale;
  quantiser = f.quantiser;
  refreshes_last = flag f.refreshes_last;
  refreshes_golden = flag f.refreshes_golden;
  refreshes_altref = flag f.refreshes_alt;
  corrupt = flag f.corrupt;
}

-- the facts about a packet's frame as numbers, or the status of a call where it has none
abbrev pub told_frame : Option FrameFacts → Result FrameInfo ℕ
told_frame f = ok_or (option_map frame_info f) NO_PICTURE

-- the facts about the frame of the decoder's last packet, or the status of a call without them
abbrev pub frame_of_value : HandleValue → Result FrameInfo ℕ
frame_of_value (Decoder d) = told_frame d.frame
frame_of_value (Stream s) = Err CLOSED
frame_of_value (Encoder e) = Err CLOSED

abbrev pub frame_in : Handle → Result FrameInfo ℕ
frame_in h = given_in frame_of_value h

-- ---- damage

-- whether the decoder's last packet is corrupt, as a number, or the status of a call without a decoder
abbrev pub corrupt_number_in : Handle → Result ℕ ℕ
corrupt_number_in h = result_map flag (corrupt_in h)
