-- The statements of the laws of live files: how they relate to what `encode_all` writes and returns, and what they
-- show. Pinned by the test `live_file_of_two_frames`.
use Rattle.std.specs.Prelude.{◌≡◌, ◌≢◌, ℕ, List, [], Option, None, Some, Ok, map}
use Rattle.vp_base.specs.declared.limits.Limits.{Limits}
use Rattle.vp_ivf.specs.declared.packet.IvfHead.{IvfHead}
use Rattle.vp_ivf.specs.declared.packet.Packet.{Packet}
use Rattle.vp_ivf.specs.Ivf.{Contents, read_file}
use Rattle.vp_ivf.specs.Reader.{finish_answer}
use Rattle.vp_ivf.specs.Text.{file_text}
use Rattle.vp_encode.specs.declared.settings.Settings.{Settings}
use Rattle.vp_encode.specs.declared.report.EncodeReport.{EncodeReport}
use Rattle.vp_encode.specs.declared.report.EncodeAllFault.{EncodeAllFault}
use Rattle.vp_encode.specs.declared.report.EncodeAllFault.TheVariants as fault
use Rattle.vp_encode.specs.File.{Work, IsDone, IsEncodeReported, IsEndedBehind, encoded_file}
use Rattle.vp_encode.specs.Playing.{FitsLimits, answers_from_state, bytes_of, shown}
use Rattle.vp_live.specs.Live.{IsLiveReported, IsLiveEnded, live_file}

-- files of the same head and the same packets, whose number in the head may differ
pub record DifferInCount (a b : List ℕ) : Type 0 where
  pub head : IvfHead
  pub packets : List Packet
  pub first : (count : ℕ) × (a ≡ file_text head count packets)
  pub second : (count : ℕ) × (b ≡ file_text head count packets)

-- A live file that ended well differs in the head's number of packets alone from a file that is a right result of
-- `encode_all` for the same source, with the same report.
abbrev pub LiveFilesAreEncoded : Type 0
LiveFilesAreEncoded = (limits : Limits) (settings : Settings) (report : EncodeReport) (file : List ℕ)
    (before after : Option (List ℕ)) → (live : IsLiveReported limits settings report file before after)
    → DifferInCount (live_file live.work) (encoded_file live.work)
    × IsEncodeReported limits settings report file (Some []) (Some (encoded_file live.work))

-- a fault other than `Device` is a right result of `encode_all` for the same source, after the same number of pictures
abbrev pub LiveFaultsAreEncodes : Type 0
LiveFaultsAreEncodes = (pictures : ℕ) (limits : Limits) (settings : Settings) (f : EncodeAllFault) (file : List ℕ)
    (before after written : Option (List ℕ)) → f ≢ fault.Device
    → IsLiveEnded pictures limits settings f file before after
    → IsEndedBehind pictures limits settings f file written written

-- the contents of the live file
abbrev pub reread_live : Limits → Work → Contents
reread_live limits w = read_file limits.packet_bytes limits.packets (live_file w)

-- the file ends without a fault, and its packets show the reconstructions, one for each picture, in order
pub record LivePlaysBack (limits : Limits) (w : Work) : Type 0 where
  pub ends : finish_answer (reread_live limits w) ≡ Ok tt
  pub pictures : answers_from_state limits None (map bytes_of (reread_live limits w).packets) ≡ map shown w.frames

-- every live file of whole packets plays back, also that of a source that broke off, under all limits that allow it
abbrev pub LiveFilesPlayBack : Type 0
LiveFilesPlayBack = (limits others : Limits) (settings : Settings) (file : List ℕ) (w : Work)
    → IsDone limits settings file w → FitsLimits others w → LivePlaysBack others w
