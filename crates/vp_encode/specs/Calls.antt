-- All calls of an encoder since it was created, refused or not, and the statement of the law
-- `encoded_frames_play_back`.
use Rattle.std.specs.Prelude.{◌≡◌, ◌≤◌, ◌*◌, ℕ, List, [], ◌∷◌, map, Option, Some, None, Result, Ok, Err}
use Rattle.std.specs.List.{filter_map, sum_by}
use Rattle.vp_base.specs.declared.limits.Limits.{Limits}
use Rattle.vp_base.specs.Image.{Image}
use Rattle.vp_encode.specs.declared.encoder.Encoded.{Encoded}
use Rattle.vp_encode.specs.declared.fault.EncodeFault.{EncodeFault}
use Rattle.vp_encode.specs.declared.fault.EncodeFault.TheVariants.{SourceSize, TooLong, Memory}
use Rattle.vp_encode.specs.Encoder.{EncoderState}
use Rattle.vp_encode.specs.Encoded.{EncodedFrame, IsEncoded, initial_encoder, errors_of}
use Rattle.vp_encode.specs.Choice.{squared_distance}
use Rattle.vp_encode.specs.File.{packet_of}
use Rattle.vp_encode.specs.Playing.{answers_from_state, shown}

-- a call of `encode`: its source and its result
pub record Call : Type 0 where
  pub source : Image
  pub result : Result Encoded EncodeFault

-- the encoded frame of a successful call
abbrev pub frame_with : Image → Encoded → EncodedFrame
frame_with source encoded = record { source = source; packet = encoded.packet; recon = encoded.recon.value }

-- ---- the encoder after a call

-- no state: the next frame is a key frame
pub record IsForgotten (e next : EncoderState) : Type 0 where
  pub dim : next.dim ≡ e.dim
  pub settings : next.settings ≡ e.settings
  pub state : next.state ≡ None

-- the frame is encoded, and its error is returned
pub record IsEncodedWithError (e : EncoderState) (source : Image) (encoded : Encoded) (next : EncoderState)
    : Type 0 where
  pub frame : IsEncoded e (frame_with source encoded) next
  pub error : encoded.squared_error ≡ squared_distance source encoded.recon.value

-- the encoder after a call with this result
abbrev pub Leaves : EncoderState → Image → Result Encoded EncodeFault → EncoderState → Type 0
Leaves e source (Ok encoded) next = IsEncodedWithError e source encoded next
Leaves e source (Err SourceSize) next = next ≡ e
Leaves e source (Err TooLong) next = IsForgotten e next
Leaves e source (Err Memory) next = IsForgotten e next

-- the calls follow each other, from encoder e to `last`
abbrev pub AreCalls : EncoderState → List Call → EncoderState → Type 0
AreCalls e [] last = last ≡ e
AreCalls e (c ∷ cs) last = (next : EncoderState) × Leaves e c.source c.result next × AreCalls next cs last

-- the encoder's state results from these calls, all since it was created
abbrev pub IsEncoderAfter : EncoderState → List Call → Type 0
IsEncoderAfter e calls = AreCalls (initial_encoder e.dim e.settings) calls e

-- ---- the frames of the successful calls

-- the encoded frame, if the call succeeded
abbrev pub frame_by : Image → Result Encoded EncodeFault → Option EncodedFrame
frame_by source (Ok encoded) = Some (frame_with source encoded)
frame_by source (Err fault) = None

-- the encoded frame of a call
abbrev pub frame_of_call : Call → Option EncodedFrame
frame_of_call c = frame_by c.source c.result

-- their frames, in order
abbrev pub frames_of : List Call → List EncodedFrame
frames_of calls = filter_map frame_of_call calls

-- the error that a call returned; 0 if it failed
abbrev pub error_by : Result Encoded EncodeFault → ℕ
error_by (Ok encoded) = encoded.squared_error
error_by (Err fault) = 0

-- the sum of the errors that they returned
abbrev pub errors_reported : List Call → ℕ
errors_reported calls = sum_by (λ c. error_by c.result) calls

-- Decoding the packets, the first one without a state, shows the reconstructions, one for each, in order. The returned
-- errors are the squared distances of these from the sources.
pub record ArePlayedBack (limits : Limits) (calls : List Call) : Type 0 where
  pub pictures : answers_from_state limits None (map packet_of (frames_of calls)) ≡ map shown (frames_of calls)
  pub errors : errors_reported calls ≡ errors_of (frames_of calls)

-- this holds for every encoder, whichever calls were refused, under all limits that allow its size
abbrev pub CallsArePlayedBack : Type 0
CallsArePlayedBack = (limits : Limits) (e : EncoderState) (calls : List Call) → IsEncoderAfter e calls
    → e.dim.w * e.dim.h ≤ limits.pixels
    → ArePlayedBack limits calls
