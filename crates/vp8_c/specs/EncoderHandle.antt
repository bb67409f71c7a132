-- The encoder of a handle: settings, and the effect of encoding a picture in the caller's planes. Pinned by the tests
-- `settings_of_c` and `a_picture_is_encoded`.
use Rattle.std.specs.Prelude.{◌≡◌, ◌≢◌, ◌⊎◌, ◌↔◌, ◌==◌, not, ℕ, List, length, Option, Some, None, Result, Err, ok_or}
use Rattle.std.specs.Prelude.{option_and_then}
use Rattle.vp_base.specs.Image.{Image}
use Rattle.vp_encode.specs.declared.encoder.Encoded.{Encoded}
use Rattle.vp_encode.specs.declared.settings.Settings.{Settings}
use Rattle.vp_encode.specs.Choice.{squared_distance}
use Rattle.vp_encode.specs.Encoder.{EncoderState}
use Rattle.vp_encode.specs.Encoded.{IsEncoded}
use Rattle.vp_encode.specs.TooLong.{IsTooLong}
use Rattle.vp8_c.specs.Arguments.{given_in, result_map}
use Rattle.vp8_c.specs.Planes.{Planes, AllFit, AreRowsOf}
use Rattle.vp8_c.specs.declared.status.TheConstants.{BUFFER, CLOSED, MEMORY, NO_PICTURE, OK, TOO_LONG}
use Rattle.vp8_c.specs.declared.settings.EncoderSettings.{EncoderSettings}
use Rattle.vp8_c.specs.declared.encoder_handle.EncoderHandle.{EncoderHandle}
use Rattle.vp8_c.specs.declared.handle_value.HandleValue.{HandleValue}
use Rattle.vp8_c.specs.declared.handle_value.HandleValue.TheVariants.{Decoder, Stream, Encoder}
use Rattle.vp8_c.specs.declared.handle.Handle.{Handle}
use Rattle.vp8_c.specs.Handle.{handle_value_in}

-- the value is an encoder
abbrev pub encoder_of : HandleValue → Option EncoderHandle
encoder_of (Decoder d) = None
encoder_of (Stream a) = None
encoder_of (Encoder e) = Some e

-- the encoder of a handle, if it is one
abbrev pub encoder_in : Handle → Option EncoderHandle
encoder_in h = option_and_then encoder_of (handle_value_in h)

-- the last encoded frame
abbrev pub encoded_of : HandleValue → Result Encoded ℕ
encoded_of (Decoder d) = Err CLOSED
encoded_of (Stream a) = Err CLOSED
encoded_of (Encoder e) = ok_or e.encoded NO_PICTURE

-- the last encoded frame, or the status of a call without one
abbrev pub encoded_in : Handle → Result Encoded ℕ
encoded_in h = given_in encoded_of h

-- its packet
abbrev pub encoded_packet : Handle → Result (List ℕ) ℕ
encoded_packet h = result_map (λ f. f.packet) (encoded_in h)

-- the length of its packet in bytes
abbrev pub packet_size_in : Handle → Result ℕ ℕ
packet_size_in h = result_map (λ f. length f.packet) (encoded_in h)

-- its reconstruction: the picture that a decoder shows for it
abbrev pub recon_in : Handle → Result Image ℕ
recon_in h = result_map (λ f. f.recon.value) (encoded_in h)

-- the squared distance of the reconstruction from the source
abbrev pub error_in : Handle → Result ℕ ℕ
error_in h = result_map (λ f. f.squared_error) (encoded_in h)

-- the library's settings for C's settings
abbrev pub settings_in : EncoderSettings → Settings
settings_in s = record {
  qi = s.qi;
  level = s.level;
  sharpness = s.sharpness;
  simple = not (s.simple == 0);
  key_every = s.key_every;
  golden_every = s.golden_every;
  range = s.range;
  subpel = not (s.subpel == 0);
  partitions = s.partitions;
}

-- an encoder for pictures of this size before its first frame
pub record IsReady (width height : ℕ) (settings : Settings) (e : EncoderHandle) : Type 0 where
  pub columns_are : e.encoder.dim.w ≡ width
  pub rows_are : e.encoder.dim.h ≡ height
  pub settings_are : e.encoder.settings ≡ settings
  pub state : e.encoder.state ≡ None
  pub since : e.encoder.since ≡ 0
  pub encoded : e.encoded ≡ None

-- the kept frame is the source, encoded in the state e
pub record EncodesSource (e : EncoderState) (source : Image) (next : EncoderHandle) : Type 0 where
  pub frame : Encoded
  pub kept : next.encoded ≡ Some frame
  pub encoded : IsEncoded e (record { source = source; packet = frame.packet; recon = frame.recon.value }) next.encoder
  pub error : frame.squared_error ≡ squared_distance source frame.recon.value

-- the kept frame is a source whose shown pixels are in the caller's planes, encoded in the state e
pub record EncodesRows (e : EncoderState) (planes : Planes) (next : EncoderHandle) : Type 0 where
  pub source : Image
  pub rows : AreRowsOf e.dim.w e.dim.h planes source
  pub encodes : EncodesSource e source next

-- a source in the caller's planes has a partition that is too long
pub record AreTooLong (e : EncoderState) (planes : Planes) : Type 0 where
  pub source : Image
  pub rows : AreRowsOf e.dim.w e.dim.h planes source
  pub too_long : IsTooLong e source

-- a frame was refused: the next one is a key frame
pub record IsFrameForgotten (e : EncoderState) (next : EncoderHandle) : Type 0 where
  pub dim : next.encoder.dim ≡ e.dim
  pub settings : next.encoder.settings ≡ e.settings
  pub state : next.encoder.state ≡ None
  pub encoded : next.encoded ≡ None

-- If the planes have room for a picture of the encoder's size, it is encoded, and its frame is kept. If a partition is
-- too long or memory runs out, no frame is kept. If the planes are too small, nothing changes.
pub record Encodes (planes : Planes) (status : ℕ) (old new : EncoderHandle) : Type 0 where
  pub answer : (status ≡ OK) ⊎ (status ≡ BUFFER) ⊎ (status ≡ TOO_LONG) ⊎ (status ≡ MEMORY)
  pub fits : (status ≢ BUFFER) ↔ AllFit old.encoder.dim.w old.encoder.dim.h planes
  pub unchanged : status ≡ BUFFER → new ≡ old
  pub encoded : status ≡ OK → EncodesRows old.encoder planes new
  pub too_long : status ≡ TOO_LONG → AreTooLong old.encoder planes
  pub forgotten : (status ≡ TOO_LONG) ⊎ (status ≡ MEMORY) → IsFrameForgotten old.encoder new
