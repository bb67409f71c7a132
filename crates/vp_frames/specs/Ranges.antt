-- The packets of a range: their answers, pictures and faults as for the whole file, the output for them, and the number
-- of packets that are decoded for them (RFC 6386, chapter 5). Pinned by the tests `one_frame`, `frames_of_a_range` and
-- `faults_of_a_range`.
use Rattle.std.specs.Prelude.{ℕ, ◌+◌, ◌-◌, min, nat_lt, if◌then◌else◌, List, length, slice_range}
use Rattle.std.specs.List.{flat_map}
use Rattle.vp_base.specs.declared.limits.Limits.{Limits}
use Rattle.vp_base.specs.Image.{Image, i420}
use Rattle.vp_head.specs.declared.fault.PacketFault.{PacketFault}
use Rattle.vp_ivf.specs.declared.packet.Packet.{Packet}
use Rattle.vp_y4m.specs.Text.{picture_text}
use Rattle.vp_decode.specs.Step.{Answer}
use Rattle.vp_stream.specs.declared.form.Form.{Form}
use Rattle.vp_stream.specs.Answers.{reading_of, answers_of}
use Rattle.vp_stream.specs.Reports.{faults_from}
use Rattle.vp_stream.specs.Seeking.{seek_start}
use Rattle.vp_stream.specs.Texts.{shown_in, text}
use Rattle.vp_frames.specs.declared.range.PacketRange.{PacketRange}

-- the answers for the packets of the range, cut out of those for the whole file
abbrev pub answers_in : Limits → List ℕ → PacketRange → List Answer
answers_in limits file range = slice_range (answers_of limits file) range.first (range.last + 1)

-- the pictures that they show
abbrev pub pictures_in : Limits → List ℕ → PacketRange → List Image
pictures_in limits file range = shown_in (answers_in limits file range)

-- pictures as YUV4MPEG2 without the header line: each after its frame line
abbrev pub frames_text : List Image → List ℕ
frames_text ps = flat_map (λ p. picture_text (i420 p)) ps

-- all output for the range: the text of these pictures
abbrev pub range_text : Limits → Form → List ℕ → PacketRange → List ℕ
range_text limits form file range = text form (reading_of limits file).head (pictures_in limits file range)

-- the faulty packets of the range: their numbers in the file, and their faults
abbrev pub faults_in : Limits → List ℕ → PacketRange → List (ℕ × PacketFault)
faults_in limits file range = faults_from range.first (answers_in limits file range)

-- The number of packets decoded: from the last key packet up to the first packet of the range, to the last packet of
-- the range that exists. 0 if none of them exists.
abbrev pub decoded_in : List Packet → PacketRange → ℕ
decoded_in packets range = if nat_lt range.first (length packets)
    then min (range.last + 1) (length packets) - seek_start packets range.first else 0
