-- Private to the crate: an encoder between frames, and the state after its packets.
use Rattle.std.specs.Prelude.{◌≡◌, ◌≤◌, ◌*◌, Option, Some, None, IfSome, List, ℕ}
use Rattle.vp_base.specs.declared.limits.Dim.{Dim}
use Rattle.vp_base.specs.declared.limits.Limits.{Limits}
use Rattle.vp_base.specs.Image.{Image}
use Rattle.vp_decode.specs.Step.{DecoderState, Shown, step}
use Rattle.vp_encode.specs.declared.coded_frame.CodedFrame.{CodedFrame}
use Rattle.vp_encode.specs.Encoder.{AreAllowed, EncoderState}
use Rattle.vp_encode.specs.PacketContents.{IsKeyFramePacket, IsInterFramePacket}
use Rattle.vp_encode.specs.FrameChoices.{AreUnsegmented}

-- the picture has this size in pixels
pub record HasSize (dim : Dim) (p : Image) : Type 0 where
  pub width : p.width ≡ dim.w
  pub height : p.height ≡ dim.h

-- the packet of a frame that is coded with this state; without a state it is a key packet
abbrev pub IsPacketOver : Dim → Option DecoderState → CodedFrame → List ℕ → Type 0
IsPacketOver dim None c packet = IsKeyFramePacket dim c packet
IsPacketOver dim (Some k) c packet = IsInterFramePacket k.saved k.segments c packet

-- a state for frames of this size: its pictures have that size, and all segments are 0
pub record IsKeptFor (dim : Dim) (k : DecoderState) : Type 0 where
  pub size : HasSize dim k.references.newest
  pub segments : AreUnsegmented dim k.segments

-- under all limits that allow this size, decoding the packet shows the picture that becomes the newest
pub record ShowsNewest (dim : Dim) (state : Option DecoderState) (packet : List ℕ) : Type 0 where
  pub kept : DecoderState
  pub sound : IsKeptFor dim kept
  pub is : (limits : Limits) → dim.w * dim.h ≤ limits.pixels
      → step limits state packet ≡ (Some kept, Shown kept.references.newest)

-- the invariant of an encoder between frames; its decoder has these limits
pub record IsSound (limits : Limits) (e : EncoderState) : Type 0 where
  pub wide : 268402689 ≤ limits.pixels
  pub settings : AreAllowed e.settings
  pub since : e.since ≤ e.settings.key_every
  pub kept : IfSome e.state (IsKeptFor e.dim)
