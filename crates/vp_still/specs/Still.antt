-- The WebP file of a picture: the packet that shows it, unchanged, or a key frame that the encoder chooses for the
-- picture, made smaller. Pinned by the tests `key_packet_is_kept`, `smaller_picture_is_encoded` and `y4m_of_a_picture`.
use Rattle.std.specs.Prelude.{◌≡◌, ◌/◌, ◌++◌, ℕ, false, List, Option, Some, None, if◌then◌else◌, is_none}
use Rattle.vp_base.specs.declared.limits.Dim.{Dim}
use Rattle.vp_base.specs.Image.{i420}
use Rattle.vp_scale.specs.declared.scale.Scale.{Scale}
use Rattle.vp_scale.specs.declared.scale.Scale.TheVariants.{Full, Half, Quarter, Eighth}
use Rattle.vp_scale.specs.Scale.{factor_of, scaled_side}
use Rattle.vp_scale.specs.Means.{scaled_i420}
use Rattle.vp_y4m.specs.Text.{header_text, picture_text}
use Rattle.vp_webp.specs.Text.{webp_text, webp_refusal}
use Rattle.vp_encode.specs.declared.settings.Settings.{Settings}
use Rattle.vp_encode.specs.Encoder.{EncoderState}
use Rattle.vp_encode.specs.Encoded.{EncodedFrame, IsEncoded, initial_encoder, error_of}
use Rattle.vp_still.specs.declared.still.Coding.{Coding}
use Rattle.vp_still.specs.declared.still.Coding.TheVariants.{Kept, Encoded}

-- ---- a packet that is kept

-- the WebP file of a packet; None if it is no shown key frame, or too long for a file
abbrev pub file_of : List ℕ → Option (List ℕ)
file_of packet = if is_none (webp_refusal packet) then Some (webp_text packet) else None

-- its file, if its picture keeps its size
abbrev pub kept_file : Scale → List ℕ → Option (List ℕ)
kept_file Full packet = file_of packet
kept_file Half packet = None
kept_file Quarter packet = None
kept_file Eighth packet = None

-- ---- a picture that is encoded

-- the encoder's settings for one key frame: the level of the loop filter is a quarter of the quantiser index
abbrev pub still_settings : ℕ → Settings
still_settings qi = record {
  qi = qi;
  level = qi / 4;
  sharpness = 0;
  simple = false;
  key_every = 1;
  golden_every = 0;
  range = 0;
  subpel = false;
  partitions = 1;
}

-- The packet is the encoder's choice for the smaller picture, given the picture of w by h pixels as I420. Decoding it
-- shows a reconstruction, whose squared distance from the smaller picture is the error.
pub record IsKeyFrameFor (scale : Scale) (qi w h : ℕ) (pixels packet : List ℕ) (error : ℕ) : Type 0 where
  pub dim : Dim
  pub width : dim.w ≡ scaled_side (factor_of scale) w
  pub height : dim.h ≡ scaled_side (factor_of scale) h
  pub frame : EncodedFrame
  pub source_width : frame.source.width ≡ dim.w
  pub source_height : frame.source.height ≡ dim.h
  pub source : i420 frame.source ≡ scaled_i420 (factor_of scale) w h pixels
  pub next : EncoderState
  pub encoded : IsEncoded (initial_encoder dim (still_settings qi)) frame next
  pub packet_is : packet ≡ frame.packet
  pub error_is : error ≡ error_of frame

-- the file has such a packet
pub record IsFileFor (scale : Scale) (qi w h : ℕ) (pixels file : List ℕ) (error : ℕ) : Type 0 where
  pub packet : List ℕ
  pub coded : IsKeyFrameFor scale qi w h pixels packet error
  pub file_is : file_of packet ≡ Some file

-- ---- the file

-- the file of a picture that is encoded, with its error
abbrev pub IsEncodedStill : Scale → ℕ → ℕ → ℕ → List ℕ → Coding → List ℕ → Type 0
IsEncodedStill scale qi w h pixels Kept file = ⊥
IsEncodedStill scale qi w h pixels (Encoded error) file = IsFileFor scale qi w h pixels file error

-- The file of a picture of w by h pixels, which is given as I420, and which this packet shows: the packet's own, or if
-- it has none, or the picture is made smaller, that of a picture that is encoded.
abbrev pub IsStillOver : Option (List ℕ) → Scale → ℕ → ℕ → ℕ → List ℕ → Coding → List ℕ → Type 0
IsStillOver (Some own) scale qi w h pixels coding file = (coding ≡ Kept) × (file ≡ own)
IsStillOver None scale qi w h pixels coding file = IsEncodedStill scale qi w h pixels coding file

abbrev pub IsStill : Scale → ℕ → List ℕ → ℕ → ℕ → List ℕ → Coding → List ℕ → Type 0
IsStill scale qi packet w h pixels coding file = IsStillOver (kept_file scale packet) scale qi w h pixels coding file

-- ---- a picture that is not compressed

-- the YUV4MPEG2 file of the smaller picture, one frame a second
abbrev pub y4m_still : Scale → ℕ → ℕ → List ℕ → List ℕ
y4m_still scale w h pixels =
    let k : ℕ = factor_of scale in
    header_text (scaled_side k w) (scaled_side k h) 1 1 ++ picture_text (scaled_i420 k w h pixels)
