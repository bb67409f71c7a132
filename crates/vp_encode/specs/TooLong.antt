-- A frame with a partition that is longer than the packet format allows. Pinned by the test `first_partition_too_long`.
use Rattle.std.specs.Prelude.{◌≡◌, Option}
use Rattle.vp_base.specs.declared.limits.Dim.{Dim}
use Rattle.vp_base.specs.Image.{Image}
use Rattle.vp_decode.specs.Step.{DecoderState, maps_before}
use Rattle.vp_encode.specs.declared.coded_frame.CodedFrame.{CodedFrame}
use Rattle.vp_encode.specs.Encoder.{EncoderState, kept_for, context_over, tag_key, header_of, frame_for}
use Rattle.vp_encode.specs.FrameChoices.{AreChosen}
use Rattle.vp_encode.specs.Written.{HasLongPartition}

-- the frame that is chosen for a source
pub record IsFrameFor (e : EncoderState) (source : Image) (c : CodedFrame) : Type 0 where
  pub header : c.header ≡ header_of e
  pub chosen : AreChosen (frame_for e source) c.macroblocks

-- a frame that is coded with this state has a partition that is too long
abbrev pub IsTooLongOver : Dim → Option DecoderState → CodedFrame → Type 0
IsTooLongOver dim kept c = HasLongPartition (tag_key dim kept) (context_over dim kept).saved
    (maps_before (context_over dim kept).modes) c

-- the frame that is chosen for the source has a partition that is too long
pub record IsTooLong (e : EncoderState) (source : Image) : Type 0 where
  pub coded : CodedFrame
  pub is : IsFrameFor e source coded
  pub long : IsTooLongOver e.dim (kept_for e) coded
