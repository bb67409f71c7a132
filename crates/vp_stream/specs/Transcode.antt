-- The state of decoding a file after some of its packets. Public are only the conversions of faults; the rest is for
-- private functions.
use Rattle.std.specs.Prelude.{ℕ, ◌+◌, ◌==◌, ◌&&◌, Bool, true, false, List, [], ◌∷◌, ◌++◌, Option, Some, None}
use Rattle.vp_base.specs.declared.limits.Limits.{Limits}
use Rattle.vp_base.specs.Image.{Image, i420}
use Rattle.vp_y4m.specs.declared.writing.PictureFault.{PictureFault}
use Rattle.vp_y4m.specs.declared.writing.PictureFault.TheVariants as written
use Rattle.vp_y4m.specs.Text.{header_text, picture_text}
use Rattle.vp_ivf.specs.declared.packet.Packet.{Packet}
use Rattle.vp_ivf.specs.declared.packet.IvfHead.{IvfHead}
use Rattle.vp_decode.specs.declared.decoder.Outcome.{Outcome}
use Rattle.vp_decode.specs.declared.decoder.Outcome.TheVariants as code
use Rattle.vp_decode.specs.Step.{DecoderState, Answer, step, outcome, picture_in}
use Rattle.vp_stream.specs.declared.report.Report.{Report}
use Rattle.vp_stream.specs.declared.form.Form.{Form}
use Rattle.vp_stream.specs.declared.form.Form.TheVariants.{I420, Y4m}
use Rattle.vp_stream.specs.declared.fault.DecodeFault.{DecodeFault}
use Rattle.vp_stream.specs.declared.fault.DecodeFault.TheVariants.{SizeChange, Device, ReadTurns, Memory}
use Rattle.vp_stream.specs.declared.fault.SurveyFault.{SurveyFault}
use Rattle.vp_stream.specs.declared.fault.SurveyFault.TheVariants as reading
use Rattle.vp_stream.specs.declared.fault.Interruption.{Interruption}
use Rattle.vp_stream.specs.declared.fault.Interruption.TheVariants as interrupted
use Rattle.vp_stream.specs.Answers.{answers_from}

-- ---- conversions of faults

-- a fault of writing a picture
abbrev pub interruption_by : PictureFault → Interruption
interruption_by written.SizeChange = interrupted.SizeChange
interruption_by written.Device = interrupted.Device

-- a fault of decoding and writing a packet
abbrev pub decode_fault_of : Interruption → DecodeFault
decode_fault_of interrupted.SizeChange = SizeChange
decode_fault_of interrupted.Device = Device
decode_fault_of interrupted.Memory = Memory

-- a fault of reading
abbrev pub read_fault_by : SurveyFault → DecodeFault
read_fault_by reading.Device = Device
read_fault_by reading.ReadTurns = ReadTurns
read_fault_by reading.Memory = Memory

-- ---- the report

-- the report with one more packet
abbrev pub with_outcome : Report → Outcome → Report
with_outcome r code.Shown = record r { packets = r.packets + 1; shown = r.shown + 1 }
with_outcome r code.Hidden = record r { packets = r.packets + 1; hidden = r.hidden + 1 }
with_outcome r (code.Fault f) = record r { packets = r.packets + 1; faults = r.faults ++ (r.packets, f) ∷ [] }

-- ---- the pictures

-- the form, and the size that all pictures must have, once the first one gives it
pub record PictureWriter : Type 0 where
  pub form : Form
  pub size : Option (ℕ × ℕ)

-- before the first picture
abbrev pub unsized : Form → PictureWriter
unsized form = record { form = form; size = None }

-- the required size after a picture of w by h pixels
abbrev pub first_size : Form → Option (ℕ × ℕ) → ℕ → ℕ → Option (ℕ × ℕ)
first_size I420 size w h = size
first_size Y4m None w h = Some (w, h)
first_size Y4m (Some size) w h = Some size

-- the writer after a picture
abbrev pub with_picture : PictureWriter → Image → PictureWriter
with_picture s p = record s { size = first_size s.form s.size p.width p.height }

-- whether there is no required size yet, or it is w by h
abbrev pub has_size : Option (ℕ × ℕ) → ℕ → ℕ → Bool
has_size None w h = true
has_size (Some size) w h = (size.0 == w) && (size.1 == h)

-- I420 allows all sizes, YUV4MPEG2 only the required one
abbrev pub fits_in : Form → Option (ℕ × ℕ) → Image → Bool
fits_in I420 size p = true
fits_in Y4m size p = has_size size p.width p.height

-- whether a picture has the required size
abbrev pub fits : PictureWriter → Image → Bool
fits s p = fits_in s.form s.size p

-- the text, if the condition holds
abbrev pub text_if : Bool → List ℕ → List ℕ
text_if true xs = xs
text_if false xs = []

-- the header line, if no picture was written before
abbrev pub line_before : Option (ℕ × ℕ) → IvfHead → ℕ → ℕ → List ℕ
line_before None head w h = header_text w h head.rate head.scale
line_before (Some size) head w h = []

-- the bytes written for a picture, given the form and the required size
abbrev pub one_text_in : Form → Option (ℕ × ℕ) → IvfHead → Image → List ℕ
one_text_in I420 size head p = i420 p
one_text_in Y4m size head p =
    line_before size head p.width p.height ++ text_if (has_size size p.width p.height) (picture_text (i420 p))

-- the bytes written for a picture
abbrev pub one_text : PictureWriter → IvfHead → Image → List ℕ
one_text s head p = one_text_in s.form s.size head p

-- the writer after a packet, whose picture may be shown
abbrev pub with_shown : PictureWriter → Option Image → PictureWriter
with_shown s None = s
with_shown s (Some p) = with_picture s p

-- whether the picture, if there is one, has the required size
abbrev pub fits_shown : PictureWriter → Option Image → Bool
fits_shown s None = true
fits_shown s (Some p) = fits s p

-- the bytes written for a packet
abbrev pub shown_text : PictureWriter → IvfHead → Option Image → List ℕ
shown_text s head None = []
shown_text s head (Some p) = one_text s head p

-- ---- the whole state

-- the limits, the decoder's state, the picture writer and the report so far
pub record TranscodeState : Type 0 where
  pub limits : Limits
  pub state : Option DecoderState
  pub sizing : PictureWriter
  pub report : Report

-- before the first packet
abbrev pub fresh : Limits → Form → TranscodeState
fresh limits form = record {
  limits = limits;
  state = None;
  sizing = unsized form;
  report = record { packets = 0; shown = 0; hidden = 0; faults = [] };
}

-- the answer for the next packet
abbrev pub answer_to : TranscodeState → List ℕ → Answer
answer_to r packet = (step r.limits r.state packet).1

-- the picture that the next packet shows
abbrev pub picture_to : TranscodeState → List ℕ → Option Image
picture_to r packet = picture_in (answer_to r packet)

-- the state after a packet
abbrev pub after_packet : TranscodeState → List ℕ → TranscodeState
after_packet r packet = record {
  limits = r.limits;
  state = (step r.limits r.state packet).0;
  sizing = with_shown r.sizing (picture_to r packet);
  report = with_outcome r.report (outcome (answer_to r packet));
}

-- the state after a list of packets
abbrev pub after_packets : TranscodeState → List Packet → TranscodeState
after_packets r [] = r
after_packets r (p ∷ ps) = after_packets (after_packet r p.bytes) ps

-- the answers for the next packets
abbrev pub answers_to : TranscodeState → List Packet → List Answer
answers_to r packets = answers_from r.limits r.state packets
