-- The frame that a packet carries, as the packet step reads it (RFC 6386, chapter 9.1). Pinned by the tests
-- `eight_partitions` and `still_frame_keeps_last`, which decode the packets.
use Rattle.std.specs.Prelude.{◌≡◌, ◌<◌, ◌≤◌, ◌-◌, ◌*◌, ℕ, true, List, length, map, slice_index, slice_index_or, Option}
use Rattle.std.specs.Prelude.{Some, None, IfSome, Ok, []}
use Rattle.vp_bool.specs.Bools.{initial_state}
use Rattle.vp_base.specs.declared.limits.Dim.{Dim}
use Rattle.vp_base.specs.declared.limits.Limits.{Limits}
use Rattle.vp_base.specs.declared.place.Place.{Place}
use Rattle.vp_base.specs.Grid.{Grid, Has}
use Rattle.vp_head.specs.declared.fields.KeyTag.{KeyTag}
use Rattle.vp_head.specs.declared.fields.Saved.{Saved}
use Rattle.vp_head.specs.Saved.{kept_after}
use Rattle.vp_decode.specs.MacroblockMaps.{MacroblockMaps, modes_in, motion_in}
use Rattle.vp_decode.specs.Frame.{tokens_of}
use Rattle.vp_decode.specs.Step.{DecoderState, FrameContext, key_context, inter_context, context_of, ParsedPacket}
use Rattle.vp_decode.specs.Step.{parsed, frame_info_of, first_part}
use Rattle.vp_encode.specs.declared.coded_frame.CodedFrame.{CodedFrame}
use Rattle.vp_encode.specs.CodedFrame.{coded_choice, saved_motion}

-- the key part of a tag of this size, without scaling (chapter 9.1)
abbrev pub key_tag : Dim → KeyTag
key_tag dim = record { dim = dim; horizontal_scale = 0; vertical_scale = 0 }

-- a partition that ends with a byte of 0
pub record HasFinalZero (bytes : List ℕ) : Type 0 where
  pub some : 0 < length bytes
  pub last : slice_index bytes (length bytes - 1) ≡ 0

-- the maps have the frame's size, and its modes and motion at each place
pub record AreMapsOf (c : CodedFrame) (m : MacroblockMaps) : Type 0 where
  pub columns : m.modes.columns ≡ c.macroblocks.columns
  pub rows : m.modes.rows ≡ c.macroblocks.rows
  pub motion_columns : m.motion.columns ≡ c.macroblocks.columns
  pub motion_rows : m.motion.rows ≡ c.macroblocks.rows
  pub modes : (p : Place) → Has c.macroblocks p → modes_in m p ≡ (coded_choice c p).modes
  pub motion : (p : Place) → Has c.macroblocks p → motion_in m p ≡ saved_motion (coded_choice c p)

-- the parsed packet is shown, of version 0, has this context and the frame's header; its partitions give the frame's
-- modes, motion and tokens at each place
pub record HasContents (key : Option KeyTag) (context : FrameContext) (c : CodedFrame) (packet : List ℕ)
    (o : ParsedPacket) : Type 0 where
  pub version : o.tag.version ≡ 0
  pub shown : o.tag.show ≡ true
  pub key_is : o.tag.key ≡ key
  pub context_is : o.context ≡ context
  pub header : o.header ≡ c.header
  pub saved : o.saved ≡ kept_after context.saved c.header
  pub maps : AreMapsOf c (frame_info_of o).maps
  pub tokens : (p : Place) → Has c.macroblocks p → tokens_of (frame_info_of o) (map initial_state o.partitions) p
      ≡ (coded_choice c p).tokens
  -- each partition ends with a byte of 0
  pub first_closed : HasFinalZero (first_part o.tag packet)
  pub closed : (i : ℕ) → i < length o.partitions → HasFinalZero (slice_index_or o.partitions i [])

-- the packet carries the frame whenever its tag and the state give this context, under all limits that allow its size
pub record EncodesFrame (key : Option KeyTag) (context : FrameContext) (c : CodedFrame) (packet : List ℕ) : Type 0 where
  pub opening : ParsedPacket
  pub opens : (limits : Limits) (state : Option DecoderState) → context_of key state ≡ Ok context
      → IfSome key (λ k. k.dim.w * k.dim.h ≤ limits.pixels)
      → parsed limits state packet ≡ Ok opening
  pub says : HasContents key context c packet opening

-- the packet of a key frame, in any state
abbrev pub IsKeyFramePacket : Dim → CodedFrame → List ℕ → Type 0
IsKeyFramePacket dim c packet = EncodesFrame (Some (key_tag dim)) (key_context dim) c packet

-- the packet of an inter frame, for these saved values and segments, and any references
abbrev pub IsInterFramePacket : Saved → Grid ℕ → CodedFrame → List ℕ → Type 0
IsInterFramePacket saved segments c packet = (k : DecoderState) → k.saved ≡ saved → k.segments ≡ segments
    → EncodesFrame None (inter_context k) c packet
