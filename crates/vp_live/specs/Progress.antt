-- Private to the crate: the progress of live encoding, picture by picture.
use Rattle.std.specs.Prelude.{◌≡◌, ◌≤◌, ◌<◌, ◌+◌, ◌⊎◌, ℕ, List, ◌++◌, Option, Result, Ok, Err, length, map}
use Rattle.std.specs.List.{enumerate_from}
use Rattle.std.specs.Io.KnownBytes.{Appends}
use Rattle.vp_base.specs.declared.limits.Limits.{Limits}
use Rattle.vp_base.specs.Image.{Image}
use Rattle.vp_base.specs.Counted.{AppendsPrefix}
use Rattle.vp_ivf.specs.Text.{packet_text, packets_text}
use Rattle.vp_y4m.specs.Header.{Head}
use Rattle.vp_encode.specs.declared.settings.Settings.{Settings}
use Rattle.vp_encode.specs.declared.report.EncodeAllFault.{EncodeAllFault}
use Rattle.vp_encode.specs.declared.report.EncodeAllFault.TheVariants as fault
use Rattle.vp_encode.specs.Encoder.{EncoderState}
use Rattle.vp_encode.specs.declared.report.EncodeReport.{EncodeReport}
use Rattle.vp_encode.specs.declared.report.EncodedSoFar.{EncodedSoFar}
use Rattle.vp_encode.specs.Encoded.{EncodedFrame, IsEncoded, lengths_of, error_of, errors_of}
use Rattle.vp_encode.specs.File.{IsDone, AreFramesOf, packet_of, frames_report, timed}
use Rattle.vp_live.specs.Live.{IsRefused, IsLiveReported, IsLiveEnded}

-- the limits, the encoder, the number of its packets so far, the sum of their lengths, and that of their squared errors
pub record LiveProgress : Type 0 where
  pub limits : Limits
  pub encoder : EncoderState
  pub frames : ℕ
  pub bytes : ℕ
  pub error : ℕ

-- the report of them
abbrev pub report_so_far : LiveProgress → EncodeReport
report_so_far r = record { frames = r.frames; error = r.error }

-- how much is encoded
abbrev pub so_far : LiveProgress → EncodedSoFar
so_far r = record { frames = r.frames; bytes = r.bytes; error = r.error }

-- the frame of these
abbrev pub frame : Image → List ℕ → Image → EncodedFrame
frame source packet recon = record { source = source; packet = packet; recon = recon }

-- there was room for one more frame, and this one is encoded within the limits
pub record IsMade (old : LiveProgress) (p : Image) (f : EncodedFrame) (next : EncoderState) : Type 0 where
  pub source : f.source ≡ p
  pub room : old.frames < old.limits.packets
  pub small : length f.packet ≤ old.limits.packet_bytes
  pub encoded : IsEncoded old.encoder f next

-- this frame of picture p is made and counted
pub record IsCounted (old : LiveProgress) (p : Image) (f : EncodedFrame) (new : LiveProgress) : Type 0 where
  pub made : IsMade old p f new.encoder
  pub limits : new.limits ≡ old.limits
  pub frames : new.frames ≡ old.frames + 1
  pub bytes : new.bytes ≡ old.bytes + length f.packet
  pub error : new.error ≡ old.error + error_of f

-- picture p is encoded and its packet is written; or it is refused, and nothing is written; or the write fails
abbrev pub TakesPicture : LiveProgress → Image → Result (Unit {0}) EncodeAllFault → LiveProgress → Option (List ℕ)
    → Option (List ℕ) → Type 0
TakesPicture old p (Ok done) new before after =
    (f : EncodedFrame) × IsCounted old p f new × Appends before after (packet_text old.frames f.packet)
TakesPicture old p (Err f) new before after =
    (IsRefused old.limits old.encoder old.frames p f × (new.frames ≡ old.frames) × (after ≡ before))
    ⊎ ((f ≡ fault.Device) × (made : EncodedFrame) × (next : EncoderState) × IsMade old p made next
    × (new.frames ≡ old.frames) × AppendsPrefix before after (packet_text old.frames made.packet))

-- these bytes of a file are read, and these frames of its pictures are encoded
pub record IsLiveAt (settings : Settings) (head : Head) (bytes : List ℕ) (frames : List EncodedFrame) (r : LiveProgress)
    : Type 0 where
  pub done : (rest : List ℕ) → IsDone r.limits settings (bytes ++ rest) (record {
    head = head;
    frames = frames;
    encoder = r.encoder;
    rest = rest;
  })
  pub frames_are : r.frames ≡ length frames
  pub bytes_are : r.bytes ≡ lengths_of frames
  pub error_is : r.error ≡ errors_of frames

-- the packets of these frames as the file has them
abbrev pub frames_text : List EncodedFrame → List ℕ
frames_text frames = packets_text (map timed (enumerate_from 0 (map packet_of frames)))

-- all pictures are encoded into these frames and written, or live encoding ended after them
abbrev pub EndsLive : Limits → Settings → Result (Unit {0}) EncodeAllFault → List ℕ → List EncodedFrame → LiveProgress
    → Option (List ℕ) → Option (List ℕ) → Type 0
EndsLive limits settings (Ok done) file frames r before after = AreFramesOf limits settings file frames
    × (report_so_far r ≡ frames_report frames) × IsLiveReported limits settings (report_so_far r) file before after
EndsLive limits settings (Err f) file frames r before after = AreFramesOf limits settings file frames
    × IsLiveEnded (length frames) limits settings f file before after
