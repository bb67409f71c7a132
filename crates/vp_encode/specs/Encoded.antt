-- A sequence of encoded frames: each packet is the choice for its source, and decodes to its reconstruction.
use Rattle.std.specs.Prelude.{◌≡◌, ◌≤◌, ◌*◌, ◌+◌, ℕ, List, [], ◌∷◌, None, if◌then◌else◌, length}
use Rattle.std.specs.List.{sum_by}
use Rattle.vp_base.specs.declared.limits.Dim.{Dim}
use Rattle.vp_base.specs.declared.limits.Limits.{Limits}
use Rattle.vp_base.specs.Image.{Image}
use Rattle.vp_decode.specs.Step.{Shown, step}
use Rattle.vp_encode.specs.declared.settings.Settings.{Settings}
use Rattle.vp_encode.specs.Encoder.{EncoderState, next_is_key}
use Rattle.vp_encode.specs.Choice.{IsChosen, squared_distance}

-- before the first frame
abbrev pub initial_encoder : Dim → Settings → EncoderState
initial_encoder dim settings = record { dim = dim; settings = settings; state = None; since = 0 }

-- a source picture, its packet, and the picture that this decodes to
pub record EncodedFrame : Type 0 where
  pub source : Image
  pub packet : List ℕ
  pub recon : Image

-- The packet is the choice for the source. Decoding it in the encoder's state shows the reconstruction, and gives the
-- state for the next frame.
pub record IsEncoded (e : EncoderState) (f : EncodedFrame) (next : EncoderState) : Type 0 where
  pub chosen : IsChosen e f.source f.packet
  pub decoded : (limits : Limits) → e.dim.w * e.dim.h ≤ limits.pixels
      → step limits e.state f.packet ≡ (next.state, Shown f.recon)
  pub dim : next.dim ≡ e.dim
  pub settings : next.settings ≡ e.settings
  pub since : next.since ≡ (if next_is_key e then 1 else e.since + 1)

-- the frames follow each other, from encoder e to `last`
abbrev pub AreEncoded : EncoderState → List EncodedFrame → EncoderState → Type 0
AreEncoded e [] last = last ≡ e
AreEncoded e (f ∷ fs) last = (next : EncoderState) × IsEncoded e f next × AreEncoded next fs last

-- the squared distance of the reconstruction from the source
abbrev pub error_of : EncodedFrame → ℕ
error_of f = squared_distance f.source f.recon

-- the sum over all frames
abbrev pub errors_of : List EncodedFrame → ℕ
errors_of frames = sum_by error_of frames

-- the length of the packet
abbrev pub packet_length : EncodedFrame → ℕ
packet_length f = length f.packet

-- the sum over all frames
abbrev pub lengths_of : List EncodedFrame → ℕ
lengths_of frames = sum_by packet_length frames
