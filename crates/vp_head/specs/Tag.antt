-- The frame tag and the key frame's start code and size, with the faults in their order (RFC 6386, chapters 9.1 and
-- 19.1). Pinned by the tests `packet_faults`, `size_limits` and `truncated_before_start_code`.
use Rattle.std.specs.Prelude.{◌≡◌, ℕ, suc, ◌+◌, ◌*◌, ◌/◌, ◌%◌, ◌^◌, ◌≤◌, ◌==◌, ◌&&◌, Bool, nat_lt, List, length}
use Rattle.std.specs.Prelude.{slice_index, Option, Some, None, Result, Ok, Err, if◌then◌else◌}
use Rattle.vp_base.specs.declared.limits.Dim.{Dim}
use Rattle.vp_base.specs.declared.limits.Limits.{Limits}
use Rattle.vp_head.specs.Sides.{is_side, is_below_16384}
use Rattle.vp_head.specs.declared.fields.Tag.{Tag}
use Rattle.vp_head.specs.declared.fields.KeyTag.{KeyTag}
use Rattle.vp_head.specs.declared.fault.PacketFault.{PacketFault}
use Rattle.vp_head.specs.declared.fault.PacketFault.TheVariants.{Truncated, Version, StartCode, Size, TooLarge}

-- count bits of n, from bit from on; bit 0 is the least significant
abbrev pub bit_field : ℕ → ℕ → ℕ → ℕ
bit_field from count n = n / 2 ^ from % 2 ^ count

-- the little-endian 16-bit number at index i
abbrev pub word_at : ℕ → List ℕ → ℕ
word_at i packet = slice_index packet i + 256 * slice_index packet (i + 1)

-- the little-endian number of the first three bytes
abbrev pub tag_word : List ℕ → ℕ
tag_word packet = word_at 0 packet + 65536 * slice_index packet 2

-- `start_code`
abbrev pub has_start_code : List ℕ → Bool
has_start_code packet = slice_index packet 3 == 0x9d && slice_index packet 4 == 0x01 && slice_index packet 5 == 0x2a

-- the size of two sides of at most 14 bits; None if one is 0 (p and q are proofs of the range, which `Dim` has too)
abbrev pub dim_of : (w h : ℕ) → w ≤ 16383 → h ≤ 16383 → Option Dim
dim_of (suc w) (suc h) p q = Some (record { w = suc w; h = suc h; w_in_range = is_side w p; h_in_range = is_side h q })
dim_of w h p q = None

-- a size if it is valid and within the limits
abbrev pub dim_within_limits : Limits → Option Dim → Result Dim PacketFault
dim_within_limits limits None = Err Size
dim_within_limits limits (Some dim) = if nat_lt limits.pixels (dim.w * dim.h) then Err TooLarge else Ok dim

-- the size in the low 14 bits of both words
abbrev pub tag_dim : ℕ → ℕ → Option Dim
tag_dim width height = dim_of (bit_field 0 14 width) (bit_field 0 14 height) (is_below_16384 width)
    (is_below_16384 height)

-- the size, and the upscaling codes in the top two bits of both words (`horizontal_size_code`, `vertical_size_code`)
abbrev pub key_with : ℕ → ℕ → Result Dim PacketFault → Result KeyTag PacketFault
key_with width height (Err fault) = Err fault
key_with width height (Ok dim) =
    Ok (record { dim = dim; horizontal_scale = bit_field 14 2 width; vertical_scale = bit_field 14 2 height })

-- the further fields of a key packet
unfoldable pub key_of : Limits → List ℕ → Result KeyTag PacketFault
key_of limits packet =
    if nat_lt (length packet) 10 then Err Truncated
    else if has_start_code packet then key_with (word_at 6 packet) (word_at 8 packet)
    (dim_within_limits limits (tag_dim (word_at 6 packet) (word_at 8 packet)))
    else Err StartCode

-- the tag of the first three bytes' number, with these key fields: `version`, `show_frame`, `first_part_size`
abbrev pub tag_with : ℕ → Option KeyTag → Tag
tag_with word key = record {
  version = bit_field 1 3 word;
  show = bit_field 4 1 word == 1;
  first_partition = bit_field 5 19 word;
  key = key;
}

-- the tag of a key packet, or the fault of its key fields
abbrev pub tag_with_key : ℕ → Result KeyTag PacketFault → Result Tag PacketFault
tag_with_key word (Err fault) = Err fault
tag_with_key word (Ok key) = Ok (tag_with word (Some key))

-- the tag of the first three bytes' number; its bit 0 (`key_frame`) is 0 in a key packet, that is, of a keyframe;
-- versions above 3 are reserved
unfoldable pub tag_of_word : Limits → ℕ → List ℕ → Result Tag PacketFault
tag_of_word limits word packet =
    if nat_lt 3 (bit_field 1 3 word) then Err Version
    else if bit_field 0 1 word == 0 then tag_with_key word (key_of limits packet)
    else Ok (tag_with word None)

-- the tag of a packet, or its first fault
unfoldable pub tag_of : Limits → List ℕ → Result Tag PacketFault
tag_of limits packet = if nat_lt (length packet) 3 then Err Truncated else tag_of_word limits (tag_word packet) packet

-- ---- which packets are key packets

abbrev pub IsKeyPacket : List ℕ → Type 0
IsKeyPacket packet = (3 ≤ length packet) × (slice_index packet 0 % 2 ≡ 0)

abbrev pub IsInterPacket : List ℕ → Type 0
IsInterPacket packet = (3 ≤ length packet) × (slice_index packet 0 % 2 ≡ 1)
