-- Live encoding: what is written while a source is read, and the results. Pinned by the tests
-- `live_file_of_two_frames`, `torn_source_leaves_its_frames` and `live_write_fails`.
use Rattle.std.specs.Prelude.{◌≡◌, ◌≢◌, ◌≤◌, ◌<◌, ◌⊎◌, ℕ, List, [], Option, Result, Ok, Err, IfOk, OnOk, length}
use Rattle.std.specs.Prelude.{map}
use Rattle.std.specs.List.{enumerate_from}
use Rattle.std.specs.Io.KnownBytes.{Appends, Consumes, IsAtEnd}
use Rattle.vp_base.specs.declared.limits.Limits.{Limits}
use Rattle.vp_base.specs.Image.{Image}
use Rattle.vp_base.specs.declared.counted.Counted.{Counted}
use Rattle.vp_base.specs.Counted.{AppendsPrefix, HasFailed, counted_contents, counted_failures, counted_remaining}
use Rattle.vp_ivf.specs.Text.{file_text, packet_text}
use Rattle.vp_y4m.specs.declared.fault.SourceFault.{SourceFault}
use Rattle.vp_y4m.specs.Header.{Head}
use Rattle.vp_y4m.specs.Pictures.{file_head, next_of}
use Rattle.vp_encode.specs.declared.settings.Settings.{Settings}
use Rattle.vp_encode.specs.declared.report.EncodeReport.{EncodeReport}
use Rattle.vp_encode.specs.declared.report.EncodedSoFar.{EncodedSoFar}
use Rattle.vp_encode.specs.declared.report.EncodeAllFault.{EncodeAllFault}
use Rattle.vp_encode.specs.declared.report.EncodeAllFault.TheVariants as fault
use Rattle.vp_encode.specs.Encoder.{EncoderState, AreAllowed}
use Rattle.vp_encode.specs.Encoded.{EncodedFrame, IsEncoded, errors_of}
use Rattle.vp_encode.specs.TooLong.{IsTooLong}
use Rattle.vp_encode.specs.File.{Work, IsDone, HasDone, HasAllPictures, HasOneMore, IsWrittenFurther, encode_fault_of}
use Rattle.vp_encode.specs.File.{AreFramesOf, packet_of, frames_report, progress_of_frames, timed}

-- ---- the output: an IVF file whose head counts 0 packets; the times of the packets are 0, 1, ..

-- the live file of these packets
abbrev pub live_text : Head → List (List ℕ) → List ℕ
live_text head packets =
    file_text (record { w = head.w; h = head.h; rate = head.rate; scale = head.scale }) 0
    (map timed (enumerate_from 0 packets))

-- the live file of all frames of the work
abbrev pub live_file : Work → List ℕ
live_file w = live_text w.head (map packet_of w.frames)

-- ---- where the work ends

-- encoder e has encoded n pictures, and refuses picture p: too many pictures, a partition too long, a packet too large,
-- or no memory
abbrev pub IsRefused : Limits → EncoderState → ℕ → Image → EncodeAllFault → Type 0
IsRefused limits e n p f =
    ((f ≡ fault.TooMany) × (n ≡ limits.packets))
    ⊎ ((f ≡ fault.TooLong) × (n < limits.packets) × IsTooLong e p)
    ⊎ ((f ≡ fault.PacketTooLarge) × (n < limits.packets) × (g : EncodedFrame) × (next : EncoderState) × (g.source ≡ p)
    × IsEncoded e g next × (limits.packet_bytes < length g.packet))
    ⊎ (f ≡ fault.Memory)

-- the fault of the head's line, or of the settings; nothing is known of a head that could not be read
abbrev pub IsHeadFault : Limits → Settings → EncodeAllFault → List ℕ → Type 0
IsHeadFault limits settings f file =
    ((s : SourceFault) × (f ≡ encode_fault_of s) × (file_head limits.pixels file ≡ Err s))
    ⊎ ((f ≡ fault.Settings) × (h : Head) × (file_head limits.pixels file ≡ Ok (h, [])) × (¬ AreAllowed settings))
    ⊎ (f ≡ fault.Device)

-- the fault after the work: of the bytes after its pictures, or of one more picture; nothing is known of a picture that
-- could not be read
abbrev pub IsNextFault : Limits → EncodeAllFault → Work → Type 0
IsNextFault limits f w =
    ((s : SourceFault) × (f ≡ encode_fault_of s) × (next_of w.head.w w.head.h w.rest ≡ Err s))
    ⊎ ((p : Image) × HasOneMore w p × IsRefused limits w.encoder (length w.frames) p f)
    ⊎ (f ≡ fault.Device) ⊎ (f ≡ fault.Memory)

-- the frame of exactly one more picture, within the limits
pub record IsNextFrame (limits : Limits) (w : Work) (f : EncodedFrame) : Type 0 where
  pub more : HasOneMore w f.source
  pub next : EncoderState
  pub room : length w.frames < limits.packets
  pub small : length f.packet ≤ limits.packet_bytes
  pub encoded : IsEncoded w.encoder f next

-- a write failed in the file's head, or in the packet after these pictures: all before it is written, and a prefix of
-- it
abbrev pub IsCutShort : ℕ → Limits → Settings → List ℕ → Option (List ℕ) → Option (List ℕ) → Type 0
IsCutShort pictures limits settings file before after =
    ((w : Work) × HasDone pictures limits settings file w × (pictures ≡ 0) × AppendsPrefix before after (live_file w))
    ⊎ ((w : Work) × (f : EncodedFrame) × (mid : Option (List ℕ)) × HasDone pictures limits settings file w
    × IsNextFrame limits w f × Appends before mid (live_file w)
    × AppendsPrefix mid after (packet_text (length w.frames) f.packet))

-- ---- results

-- the result is a report: all pictures are encoded, and the whole file is written
pub record IsLiveReported (limits : Limits) (settings : Settings) (report : EncodeReport) (file : List ℕ)
    (before after : Option (List ℕ)) : Type 0 where
  pub work : Work
  pub done : IsDone limits settings file work
  pub whole : HasAllPictures work
  pub frames : report.frames ≡ length work.frames
  pub error : report.error ≡ errors_of work.frames
  pub writes : Appends before after (live_file work)

-- Live encoding ended by a fault after this number of pictures. A fault of the head or of the settings writes nothing;
-- any other leaves the file of these pictures. After a failed write a prefix of what came next may follow it.
abbrev pub IsLiveEnded : ℕ → Limits → Settings → EncodeAllFault → List ℕ → Option (List ℕ) → Option (List ℕ) → Type 0
IsLiveEnded pictures limits settings f file before after =
    (IsHeadFault limits settings f file × (pictures ≡ 0) × (after ≡ before))
    ⊎ ((w : Work) × HasDone pictures limits settings file w × IsNextFault limits f w
    × Appends before after (live_file w))
    ⊎ ((f ≡ fault.Device) × IsCutShort pictures limits settings file before after)

-- the result of live encoding, after this number of pictures
abbrev pub IsLiveAnswer : ℕ → Limits → Settings → Result EncodeReport EncodeAllFault → List ℕ → Option (List ℕ)
    → Option (List ℕ) → Type 0
IsLiveAnswer pictures limits settings (Ok report) file before after = IsLiveReported limits settings report file before
    after × (report.frames ≡ pictures)
IsLiveAnswer pictures limits settings (Err f) file before after = IsLiveEnded pictures limits settings f file before
    after

-- ---- the whole work, from a reader to a writer

-- The result of live encoding, if the reader's and the writer's bytes are known. The progress callback receives how
-- much is encoded with the first picture, with the first two, .. up to all pictures whose packets are written; their
-- report is returned.
pub record IsLiveOver {R W : Type 0} (remaining : R → Option (List ℕ)) (contents : W → Option (List ℕ))
    (limits : Limits) (settings : Settings) (result : Result EncodeReport EncodeAllFault) (reader reader' : Counted R)
    (writer writer' : Counted W) (told told' : List EncodedSoFar → Type 0) : Type 0 where
  pub frames : List EncodedFrame
  pub file : List ℕ
  pub consumed : Consumes (counted_remaining remaining reader) (counted_remaining remaining reader') file
  pub encoded : AreFramesOf limits settings file frames
  pub answer : IsLiveAnswer (length frames) limits settings result file (counted_contents contents writer)
      (counted_contents contents writer')
  pub reported : IfOk result (λ report. report ≡ frames_report frames)
  pub told_further : IsWrittenFurther told told' (progress_of_frames frames)
  -- a report and `Torn` are returned only at the reader's end
  pub end : OnOk result (IsAtEnd (counted_remaining remaining reader'))
  pub torn : result ≡ Err fault.Torn → IsAtEnd (counted_remaining remaining reader')
  -- `Device` is returned only after a failed read or write, and always after one
  pub device : result ≡ Err fault.Device
      → HasFailed (counted_failures reader) (counted_failures reader')
      ⊎ HasFailed (counted_failures writer) (counted_failures writer')
  pub quiet : result ≢ Err fault.Device
      → (counted_failures reader' ≡ counted_failures reader) × (counted_failures writer' ≡ counted_failures writer)
