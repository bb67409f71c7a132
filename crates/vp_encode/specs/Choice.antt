-- A packet carries the encoder's choice for a source, as a decoder reads it; and the squared distance of two pictures.
-- Pinned by the test `error_over_shown_pixels`.
use Rattle.std.specs.Prelude.{◌≡◌, ◌<◌, ◌≤◌, ◌*◌, ℕ, true, List, [], Ok, length, map, slice_index_or}
use Rattle.vp_bool.specs.Bools.{State, initial_state}
use Rattle.vp_base.specs.declared.limits.Limits.{Limits}
use Rattle.vp_base.specs.declared.place.Place.{Place}
use Rattle.vp_base.specs.Image.{Image, blank_image, macroblocks, i420}
use Rattle.vp_base.specs.Over.{over}
use Rattle.vp_recon.specs.Predictor.{Macroblock}
use Rattle.vp_recon.specs.Rebuilt.{row_rebuilt}
use Rattle.vp_search.specs.Differences.{sum_of_squares}
use Rattle.vp_choose.specs.declared.frame.Choice.{Choice}
use Rattle.vp_choose.specs.Choice.{IsChoice}
use Rattle.vp_decode.specs.MacroblockMaps.{modes_in, motion_in}
use Rattle.vp_decode.specs.Frame.{FrameInfo, frame_of, tokens_of}
use Rattle.vp_decode.specs.Step.{ParsedPacket, first_part, parsed, frame_info_of}
use Rattle.vp_encode.specs.Encoder.{EncoderState, kept_for, tag_key, header_of, frame_for}
use Rattle.vp_encode.specs.PacketContents.{HasFinalZero}

-- a picture of this size in pixels with the macroblocks before p rebuilt: the rows above, and those to the left
abbrev pub rebuilt_before : ℕ → ℕ → (Place → Macroblock) → Place → Image
rebuilt_before width height f p =
    row_rebuilt p.column f p.row (over p.row (row_rebuilt (macroblocks width) f) (blank_image width height 0))

-- what a decoder reads for the macroblock at p
abbrev pub choice_read : FrameInfo → List State → Place → Choice
choice_read f partitions p = record {
  modes = modes_in f.maps p;
  motion = record { mode = (motion_in f.maps p).mode; vectors = (motion_in f.maps p).vectors };
  tokens = tokens_of f partitions p;
}

-- each macroblock is the choice for the source, given the reconstruction and the motion of those before it
abbrev pub AreChoices : EncoderState → Image → FrameInfo → List State → Type 0
AreChoices e source f partitions = (p : Place) → p.column < macroblocks e.dim.w → p.row < macroblocks e.dim.h
    → IsChoice (frame_for e source) (rebuilt_before e.dim.w e.dim.h
    (frame_of f partitions e.dim.w e.dim.h).macroblock p) f.maps.motion p (choice_read f partitions p)

-- the packet is shown and of version 0, has the encoder's header, and carries the choice for the source
pub record IsChosen (e : EncoderState) (source : Image) (packet : List ℕ) : Type 0 where
  pub opening : ParsedPacket
  pub opens : (limits : Limits) → e.dim.w * e.dim.h ≤ limits.pixels
      → parsed limits e.state packet ≡ Ok opening
  pub version : opening.tag.version ≡ 0
  pub shown : opening.tag.show ≡ true
  pub key : opening.tag.key ≡ tag_key e.dim (kept_for e)
  pub header : opening.header ≡ header_of e
  pub choices : AreChoices e source (frame_info_of opening) (map initial_state opening.partitions)
  -- each partition ends with a byte of 0
  pub first_closed : HasFinalZero (first_part opening.tag packet)
  pub closed : (i : ℕ) → i < length opening.partitions → HasFinalZero (slice_index_or opening.partitions i [])

-- the squared distance of two pictures of one size, over the shown pixels of Y, U and V
abbrev pub squared_distance : Image → Image → ℕ
squared_distance p q = sum_of_squares (i420 p) (i420 q)
