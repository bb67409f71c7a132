-- Private to the crate: the answer for one packet is written. The bytes, the picture writer after it, and the fault
-- that is noted.
use Rattle.std.specs.Prelude.{◌≡◌, ℕ, Bool, true, List, [], ◌∷◌, ◌++◌, length, Option}
use Rattle.vp_head.specs.declared.fault.PacketFault.{PacketFault}
use Rattle.vp_ivf.specs.declared.packet.IvfHead.{IvfHead}
use Rattle.vp_y4m.specs.Text.{picture_text, i420_length}
use Rattle.vp_stream.specs.declared.form.Form.{Form}
use Rattle.vp_stream.specs.declared.form.Form.TheVariants.{I420, Y4m}
use Rattle.vp_stream.specs.declared.fault.DecodeFault.{DecodeFault}
use Rattle.vp_stream.specs.declared.fault.DecodeFault.TheVariants.{File, SizeChange, Device, ReadTurns, Memory}
use Rattle.vp_stream.specs.Seeking.{AnswerValue, Shown, Hidden, Fault, NoPacket}
use Rattle.vp_stream.specs.Transcode.{PictureWriter, first_size, has_size, line_before, text_if}

-- ---- a picture of w by h pixels

-- the writer after it
abbrev pub with_size : PictureWriter → ℕ → ℕ → PictureWriter
with_size s w h = record s { size = first_size s.form s.size w h }

-- I420 allows all sizes, YUV4MPEG2 only the required one
abbrev pub fits_size : Form → Option (ℕ × ℕ) → ℕ → ℕ → Bool
fits_size I420 size w h = true
fits_size Y4m size w h = has_size size w h

-- the bytes written, given its pixels as I420
abbrev pub pixels_text : Form → Option (ℕ × ℕ) → IvfHead → ℕ → ℕ → List ℕ → List ℕ
pixels_text I420 size head w h pixels = pixels
pixels_text Y4m size head w h pixels = line_before size head w h ++ text_if (has_size size w h) (picture_text pixels)

-- ---- an answer

-- a shown picture has all its pixels
abbrev pub HasAllPixels : AnswerValue → Type 0
HasAllPixels (Shown w h pixels) = length pixels ≡ i420_length w h
HasAllPixels Hidden = Unit {0}
HasAllPixels (Fault f) = Unit {0}
HasAllPixels NoPacket = Unit {0}

-- the writer after the answer
abbrev pub with_answer : PictureWriter → AnswerValue → PictureWriter
with_answer s (Shown w h pixels) = with_size s w h
with_answer s Hidden = s
with_answer s (Fault f) = s
with_answer s NoPacket = s

-- whether the picture, if one is shown, has the required size
abbrev pub fits_answer : PictureWriter → AnswerValue → Bool
fits_answer s (Shown w h pixels) = fits_size s.form s.size w h
fits_answer s Hidden = true
fits_answer s (Fault f) = true
fits_answer s NoPacket = true

-- the bytes written for the answer
abbrev pub answer_text : PictureWriter → IvfHead → AnswerValue → List ℕ
answer_text s head (Shown w h pixels) = pixels_text s.form s.size head w h pixels
answer_text s head Hidden = []
answer_text s head (Fault f) = []
answer_text s head NoPacket = []

-- the fault of a packet, with the packet's number
abbrev pub faults_at : ℕ → AnswerValue → List (ℕ × PacketFault)
faults_at number (Shown w h pixels) = []
faults_at number Hidden = []
faults_at number (Fault f) = (number, f) ∷ []
faults_at number NoPacket = []

-- the fault is none of the file, and none of reading
abbrev pub IsWriteFault : DecodeFault → Type 0
IsWriteFault (File fault) = ⊥
IsWriteFault SizeChange = Unit {0}
IsWriteFault Device = Unit {0}
IsWriteFault ReadTurns = ⊥
IsWriteFault Memory = Unit {0}
