-- The results of encoding a source file: the report or the fault, and the output. Faults are in the order of the work.
-- Pinned by tests on whole files and on failing reads and writes.
use Rattle.std.specs.Prelude.{◌≡◌, ◌≢◌, ◌≤◌, ◌<◌, ◌+◌, ◌*◌, ◌⊎◌, ℕ, List, [], ◌∷◌, ◌++◌, Option, None}
use Rattle.std.specs.Prelude.{Result, Ok, Err, IfOk, OnOk, length, map}
use Rattle.std.specs.List.{All, enumerate_from}
use Rattle.std.specs.Io.KnownBytes.{Appends, Consumes, IsAtEnd}
use Rattle.vp_base.specs.declared.limits.Dim.{Dim}
use Rattle.vp_base.specs.declared.limits.Limits.{Limits}
use Rattle.vp_base.specs.Image.{Image}
use Rattle.vp_base.specs.declared.counted.Counted.{Counted}
use Rattle.vp_base.specs.Counted.{AppendsPrefix, HasFailed, counted_contents, counted_failures, counted_remaining}
use Rattle.vp_ivf.specs.declared.packet.Packet.{Packet}
use Rattle.vp_ivf.specs.Text.{file_text}
use Rattle.vp_y4m.specs.declared.fault.SourceFault.{SourceFault}
use Rattle.vp_y4m.specs.declared.fault.SourceFault.TheVariants as source
use Rattle.vp_y4m.specs.Header.{Head}
use Rattle.vp_y4m.specs.Pictures.{file_head, next_of}
use Rattle.vp_encode.specs.declared.settings.Settings.{Settings}
use Rattle.vp_encode.specs.declared.report.EncodeReport.{EncodeReport}
use Rattle.vp_encode.specs.declared.report.EncodedSoFar.{EncodedSoFar}
use Rattle.vp_encode.specs.declared.report.EncodeAllFault.{EncodeAllFault}
use Rattle.vp_encode.specs.declared.report.EncodeAllFault.TheVariants as fault
use Rattle.vp_encode.specs.Encoder.{EncoderState, AreAllowed}
use Rattle.vp_encode.specs.Encoded.{EncodedFrame, IsEncoded, AreEncoded, initial_encoder, lengths_of, errors_of}
use Rattle.vp_encode.specs.Pictures.{BeginWith}
use Rattle.vp_encode.specs.TooLong.{IsTooLong}

-- ---- the work done: the head is read, the first pictures after it are encoded, and some bytes are left

-- the head, the encoded frames, the encoder after them, and the bytes of the file that are left
pub record Work : Type 0 where
  pub head : Head
  pub frames : List EncodedFrame
  pub encoder : EncoderState
  pub rest : List ℕ

-- the source picture of a frame
abbrev pub source_of : EncodedFrame → Image
source_of f = f.source

-- the work is done with these settings, under these limits
pub record IsDone (limits : Limits) (settings : Settings) (file : List ℕ) (w : Work) : Type 0 where
  pub body : List ℕ
  pub headed : file_head limits.pixels file ≡ Ok (w.head, body)
  pub allowed : AreAllowed settings
  pub pictures : BeginWith w.head.w w.head.h body (map source_of w.frames) w.rest
  pub dim : Dim
  pub width : dim.w ≡ w.head.w
  pub height : dim.h ≡ w.head.h
  pub encoded : AreEncoded (initial_encoder dim settings) w.frames w.encoder
  pub few : length w.frames ≤ limits.packets
  pub small : All (λ f. length f.packet ≤ limits.packet_bytes) w.frames

-- all pictures of the file are encoded
abbrev pub HasAllPictures : Work → Type 0
HasAllPictures w = next_of w.head.w w.head.h w.rest ≡ Ok None

-- exactly one more picture is left
abbrev pub HasOneMore : Work → Image → Type 0
HasOneMore w p = BeginWith w.head.w w.head.h w.rest (p ∷ []) []

-- ---- the output: an IVF file with the source's size and rate; the times of the packets are 0, 1, ..

-- the packet with its number as its time
abbrev pub timed : ℕ × List ℕ → Packet
timed e = record { time = e.0; bytes = e.1 }

-- the IVF file of these packets
abbrev pub ivf_text : Head → List (List ℕ) → List ℕ
ivf_text head packets =
    file_text (record { w = head.w; h = head.h; rate = head.rate; scale = head.scale }) (length packets)
    (map timed (enumerate_from 0 packets))

-- the packet of a frame
abbrev pub packet_of : EncodedFrame → List ℕ
packet_of f = f.packet

-- the IVF file of all frames of the work
abbrev pub encoded_file : Work → List ℕ
encoded_file w = ivf_text w.head (map packet_of w.frames)

-- ---- results

-- a fault of the source as a fault of encoding
abbrev pub encode_fault_of : SourceFault → EncodeAllFault
encode_fault_of source.Magic = fault.Magic
encode_fault_of source.Size = fault.Size
encode_fault_of source.Colour = fault.Colour
encode_fault_of source.Interlaced = fault.Interlaced
encode_fault_of source.Torn = fault.Torn
encode_fault_of source.Device = fault.Device
encode_fault_of source.Memory = fault.Memory

-- the result is a report: all pictures are encoded, and the whole file is written
pub record IsEncodeReported (limits : Limits) (settings : Settings) (report : EncodeReport) (file : List ℕ)
    (before after : Option (List ℕ)) : Type 0 where
  pub work : Work
  pub done : IsDone limits settings file work
  pub whole : HasAllPictures work
  pub frames : report.frames ≡ length work.frames
  pub error : report.error ≡ errors_of work.frames
  pub writes : Appends before after (encoded_file work)

-- this number of pictures is encoded
abbrev pub HasDone : ℕ → Limits → Settings → List ℕ → Work → Type 0
HasDone pictures limits settings file w = IsDone limits settings file w × (length w.frames ≡ pictures)

-- the head has this fault, or the bytes after the pictures have it
abbrev pub IsFaulty : ℕ → Limits → Settings → SourceFault → List ℕ → Type 0
IsFaulty pictures limits settings fault file =
    ((file_head limits.pixels file ≡ Err fault) × (pictures ≡ 0))
    ⊎ ((w : Work) × HasDone pictures limits settings file w × (next_of w.head.w w.head.h w.rest ≡ Err fault))

-- no picture is encoded yet, or this number of them
abbrev pub IsInProgress : ℕ → Limits → Settings → List ℕ → Type 0
IsInProgress pictures limits settings file = (pictures ≡ 0) ⊎ ((w : Work) × HasDone pictures limits settings file w)

-- Encoding ended after this number of pictures. If a write failed, a prefix of the output is written.
abbrev pub IsEndedBehind : ℕ → Limits → Settings → EncodeAllFault → List ℕ → Option (List ℕ) → Option (List ℕ) → Type 0
IsEndedBehind pictures limits settings fault.Magic file before after = IsFaulty pictures limits settings source.Magic
    file
IsEndedBehind pictures limits settings fault.Size file before after = IsFaulty pictures limits settings source.Size file
IsEndedBehind pictures limits settings fault.Colour file before after = IsFaulty pictures limits settings source.Colour
    file
IsEndedBehind pictures limits settings fault.Interlaced file before after = IsFaulty pictures limits settings
    source.Interlaced file
IsEndedBehind pictures limits settings fault.Torn file before after = IsFaulty pictures limits settings source.Torn file
IsEndedBehind pictures limits settings fault.Settings file before after =
    (h : Head) × (file_head limits.pixels file ≡ Ok (h, [])) × (¬ AreAllowed settings) × (pictures ≡ 0)
IsEndedBehind pictures limits settings fault.TooMany file before after =
    (w : Work) × (p : Image) × HasDone pictures limits settings file w × HasOneMore w p
    × (length w.frames ≡ limits.packets)
IsEndedBehind pictures limits settings fault.TooLong file before after =
    (w : Work) × (p : Image) × HasDone pictures limits settings file w × HasOneMore w p
    × (length w.frames < limits.packets) × IsTooLong w.encoder p
IsEndedBehind pictures limits settings fault.PacketTooLarge file before after =
    (w : Work) × (f : EncodedFrame) × (next : EncoderState) × HasDone pictures limits settings file w
    × HasOneMore w f.source
    × (length w.frames < limits.packets) × IsEncoded w.encoder f next × (limits.packet_bytes < length f.packet)
IsEndedBehind pictures limits settings fault.Device file before after =
    ((after ≡ before) × IsInProgress pictures limits settings file)
    ⊎ ((w : Work) × HasDone pictures limits settings file w × HasAllPictures w
    × AppendsPrefix before after (encoded_file w))
IsEndedBehind pictures limits settings fault.Memory file before after = IsInProgress pictures limits settings file

-- encoding ended by this fault, after some number of pictures
abbrev pub IsEncodeEndedBy : Limits → Settings → EncodeAllFault → List ℕ → Option (List ℕ) → Option (List ℕ) → Type 0
IsEncodeEndedBy limits settings fault file before after = (pictures : ℕ)
    × IsEndedBehind pictures limits settings fault file before after

-- the result of encoding a file: a report, or a fault
abbrev pub IsEncodeAnswerFor : Limits → Settings → Result EncodeReport EncodeAllFault → List ℕ → Option (List ℕ)
    → Option (List ℕ) → Type 0
IsEncodeAnswerFor limits settings (Ok report) file before after = IsEncodeReported limits settings report file before
    after
IsEncodeAnswerFor limits settings (Err fault) file before after = IsEncodeEndedBy limits settings fault file before
    after

-- the result of encoding a file, after this number of pictures
abbrev pub IsAnswerBehind : ℕ → Limits → Settings → Result EncodeReport EncodeAllFault → List ℕ → Option (List ℕ)
    → Option (List ℕ) → Type 0
IsAnswerBehind pictures limits settings (Ok report) file before after = IsEncodeReported limits settings report file
    before after × (report.frames ≡ pictures)
IsAnswerBehind pictures limits settings (Err fault) file before after = IsEndedBehind pictures limits settings fault
    file before after

-- ---- the whole work, from a reader to a writer

-- the result of encoding, if the reader's and the writer's bytes are known
pub record IsAnswerOver {R W : Type 0} (remaining : R → Option (List ℕ)) (contents : W
    → Option (List ℕ)) (limits : Limits) (settings : Settings)
    (result : Result EncodeReport EncodeAllFault) (reader reader' : Counted R) (writer writer' : Counted W)
    : Type 0 where
  pub file : List ℕ
  pub consumed : Consumes (counted_remaining remaining reader) (counted_remaining remaining reader') file
  pub answer : IsEncodeAnswerFor limits settings result file (counted_contents contents writer)
      (counted_contents contents writer')
  pub unwritten : (f : EncodeAllFault) → result ≡ Err f → f ≢ fault.Device → writer' ≡ writer
  -- a report and `Torn` are returned only at the reader's end
  pub end : OnOk result (IsAtEnd (counted_remaining remaining reader'))
  pub torn : result ≡ Err fault.Torn → IsAtEnd (counted_remaining remaining reader')
  -- `Device` is returned only after a failed read or write, and always after one
  pub device : result ≡ Err fault.Device
      → HasFailed (counted_failures reader) (counted_failures reader')
      ⊎ HasFailed (counted_failures writer) (counted_failures writer')
  pub quiet : result ≢ Err fault.Device
      → (counted_failures reader' ≡ counted_failures reader) × (counted_failures writer' ≡ counted_failures writer)

-- ---- what a progress callback receives

-- the report of these frames
abbrev pub frames_report : List EncodedFrame → EncodeReport
frames_report frames = record { frames = length frames; error = errors_of frames }

-- how much is encoded with these frames
abbrev pub so_far_of : List EncodedFrame → EncodedSoFar
so_far_of frames = record { frames = length frames; bytes = lengths_of frames; error = errors_of frames }

-- after earlier frames: how much is encoded with each of these
abbrev pub progress_after : List EncodedFrame → List EncodedFrame → List EncodedSoFar
progress_after earlier [] = []
progress_after earlier (f ∷ frames) = so_far_of (earlier ++ f ∷ []) ∷ progress_after (earlier ++ f ∷ []) frames

-- how much is encoded with the first frame, with the first two, .. with all of them
abbrev pub progress_of_frames : List EncodedFrame → List EncodedSoFar
progress_of_frames frames = progress_after [] frames

-- the progress callback receives these after any earlier ones
abbrev pub IsWrittenFurther : (before after : List EncodedSoFar → Type 0) → List EncodedSoFar → Type 0
IsWrittenFurther before after steps = (earlier : List EncodedSoFar) → before earlier → after (earlier ++ steps)

-- none, or the frames of the work done
abbrev pub AreFramesOf : Limits → Settings → List ℕ → List EncodedFrame → Type 0
AreFramesOf limits settings file frames =
    (frames ≡ []) ⊎ ((w : Work) × IsDone limits settings file w × (w.frames ≡ frames))

-- The progress callback receives how much is encoded with the first picture, with the first two, .. up to all pictures
-- encoded, whose report is returned.
pub record IsWatched {R W : Type 0} (remaining : R → Option (List ℕ)) (contents : W
    → Option (List ℕ)) (limits : Limits) (settings : Settings)
    (result : Result EncodeReport EncodeAllFault) (reader reader' : Counted R) (writer writer' : Counted W)
    (before after : List EncodedSoFar → Type 0) : Type 0 where
  pub frames : List EncodedFrame
  pub told : IsWrittenFurther before after (progress_of_frames frames)
  pub file : List ℕ
  pub consumed : Consumes (counted_remaining remaining reader) (counted_remaining remaining reader') file
  pub encoded : AreFramesOf limits settings file frames
  pub answer : IsAnswerBehind (length frames) limits settings result file (counted_contents contents writer)
      (counted_contents contents writer')
  pub reported : IfOk result (λ report. report ≡ frames_report frames)

-- ---- the number of reads

-- one read for each byte of the longest file under the limits, plus one picture: lines of 1,025 bytes, and at most
-- three bytes for a pixel
abbrev pub most_reads : Limits → ℕ
most_reads limits = 1025 + (limits.packets + 1) * (1025 + 3 * limits.pixels)
