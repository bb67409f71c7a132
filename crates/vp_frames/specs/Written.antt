-- The result of `decode_range`: the report or the fault, the output in each case, and where reading ends. Pinned by the
-- tests `frames_behind_the_last` and `frames_of_a_file_cut_short`.
use Rattle.std.specs.Prelude.{◌≡◌, ◌≢◌, ◌≤◌, ◌-◌, ◌^◌, ◌⊎◌, ℕ, true, false, List, [], Option, Result, Ok, Err, length}
use Rattle.std.specs.Prelude.{OnOk}
use Rattle.std.specs.Io.KnownBytes.{Appends, Consumes, IsAtEnd}
use Rattle.vp_base.specs.declared.limits.Limits.{Limits}
use Rattle.vp_base.specs.declared.counted.Counted.{Counted}
use Rattle.vp_base.specs.Counted.{counted_remaining, counted_contents, counted_failures, HasFailed, AppendsPrefix}
use Rattle.vp_ivf.specs.declared.fault.FileFault.TheVariants as file_fault
use Rattle.vp_ivf.specs.Reader.{finish_answer}
use Rattle.vp_stream.specs.declared.form.Form.{Form}
use Rattle.vp_stream.specs.declared.fault.DecodeFault.{DecodeFault}
use Rattle.vp_stream.specs.declared.fault.DecodeFault.TheVariants.{File, SizeChange, Device, ReadTurns, Memory}
use Rattle.vp_stream.specs.Answers.{reading_of}
use Rattle.vp_stream.specs.Texts.{changes_size}
use Rattle.vp_frames.specs.declared.range.PacketRange.{PacketRange}
use Rattle.vp_frames.specs.declared.report.RangeReport.{RangeReport}
use Rattle.vp_frames.specs.Ranges.{pictures_in, range_text, faults_in, decoded_in}

-- ---- the output

-- all output for the range is appended, if the writer's bytes are known
abbrev pub WritesRange : Limits → Form → List ℕ → PacketRange → Option (List ℕ) → Option (List ℕ) → Type 0
WritesRange limits form file range before after = Appends before after (range_text limits form file range)

-- a prefix of it is appended
abbrev pub WritesRangePrefix : Limits → Form → List ℕ → PacketRange → Option (List ℕ) → Option (List ℕ) → Type 0
WritesRangePrefix limits form file range before after = AppendsPrefix before after (range_text limits form file range)

-- all output is appended, and all pictures have the required size
abbrev pub WritesWholeRange : Limits → Form → List ℕ → PacketRange → Option (List ℕ) → Option (List ℕ) → Type 0
WritesWholeRange limits form file range before after =
    (changes_size form (pictures_in limits file range) ≡ false) × WritesRange limits form file range before after

-- the output ends before a picture of another size than the first
abbrev pub WritesToChange : Limits → Form → List ℕ → PacketRange → Option (List ℕ) → Option (List ℕ) → Type 0
WritesToChange limits form file range before after =
    (changes_size form (pictures_in limits file range) ≡ true) × WritesRange limits form file range before after

-- ---- the result for the packets of a file that is read

-- the report counts the file's packets and those decoded, and has the faults of the range; all output is appended
pub record IsRangeReported (limits : Limits) (form : Form) (file : List ℕ) (range : PacketRange) (report : RangeReport)
    (before after : Option (List ℕ)) : Type 0 where
  pub count : report.count ≡ length (reading_of limits file).packets
  pub decoded : report.decoded ≡ decoded_in (reading_of limits file).packets range
  pub faults : report.faults ≡ faults_in limits file range
  pub writes : WritesWholeRange limits form file range before after

-- A report, or a fault: a picture of another size, after the output before it; a failed write, or out of memory, after
-- a prefix of the output.
abbrev pub IsRangeWritten : Limits → Form → List ℕ → PacketRange → Result RangeReport DecodeFault → Type 0
    → Option (List ℕ) → Option (List ℕ) → Type 0
IsRangeWritten limits form file range (Ok report) write_failed before after =
    IsRangeReported limits form file range report before after
IsRangeWritten limits form file range (Err (File fault)) write_failed before after = ⊥
IsRangeWritten limits form file range (Err SizeChange) write_failed before after =
    WritesToChange limits form file range before after
IsRangeWritten limits form file range (Err Device) write_failed before after =
    write_failed × WritesRangePrefix limits form file range before after
IsRangeWritten limits form file range (Err ReadTurns) write_failed before after = ⊥
IsRangeWritten limits form file range (Err Memory) write_failed before after =
    WritesRangePrefix limits form file range before after

-- ---- the result for the file

-- Each fault, and the output written before it. A fault of the file: the output for all packets of the range before it.
-- A picture of another size: the output before it. A failed read, or no reads left: none. A failed write, or out of
-- memory: a prefix of the output. If no reads are left, each of them gave a byte.
abbrev pub IsRangeEndedBy : Limits → Form → List ℕ → PacketRange → DecodeFault → Type 0 → Option (List ℕ)
    → Option (List ℕ) → Type 0
IsRangeEndedBy limits form file range (File fault) write_failed before after =
    (finish_answer (reading_of limits file) ≡ Err fault) × WritesWholeRange limits form file range before after
IsRangeEndedBy limits form file range SizeChange write_failed before after =
    WritesToChange limits form file range before after
IsRangeEndedBy limits form file range Device write_failed before after =
    Appends before after [] ⊎ (write_failed × WritesRangePrefix limits form file range before after)
IsRangeEndedBy limits form file range ReadTurns write_failed before after =
    (2 ^ 32 - 1 ≤ length file) × Appends before after []
IsRangeEndedBy limits form file range Memory write_failed before after =
    WritesRangePrefix limits form file range before after

-- a report, if the file ends without a fault; or a fault
abbrev pub IsRangeAnswerFor : Limits → Form → List ℕ → PacketRange → Result RangeReport DecodeFault → Type 0
    → Option (List ℕ) → Option (List ℕ) → Type 0
IsRangeAnswerFor limits form file range (Ok report) write_failed before after =
    (finish_answer (reading_of limits file) ≡ Ok tt) × IsRangeReported limits form file range report before after
IsRangeAnswerFor limits form file range (Err fault) write_failed before after =
    IsRangeEndedBy limits form file range fault write_failed before after

-- ---- the result with the reader and the writer

-- the bytes that a reader has left, or that a writer holds, if they are known; and the number of failed calls
pub record Side : Type 0 where
  pub bytes : Option (List ℕ)
  pub failures : ℕ

-- the side of a reader
abbrev pub read_side : {R : Type 0} → (R → Option (List ℕ)) → Counted R → Side
read_side remaining r = record { bytes = counted_remaining remaining r; failures = counted_failures r }

-- the side of a writer
abbrev pub written_side : {W : Type 0} → (W → Option (List ℕ)) → Counted W → Side
written_side contents w = record { bytes = counted_contents contents w; failures = counted_failures w }

-- A file is consumed, and this is the result for it. A report and `Torn` are returned only at the reader's end,
-- `Device` only after a failed read or write, and always after one.
pub record IsRangeDecoded (limits : Limits) (form : Form) (range : PacketRange) (done : Result RangeReport DecodeFault)
    (input input' output output' : Side) : Type 0 where
  pub file : List ℕ
  pub consumed : Consumes input.bytes input'.bytes file
  pub answer : IsRangeAnswerFor limits form file range done (HasFailed output.failures output'.failures)
      output.bytes output'.bytes
  pub end : OnOk done (IsAtEnd input'.bytes)
  pub torn : done ≡ Err (File file_fault.Torn) → IsAtEnd input'.bytes
  pub device : done ≡ Err Device → HasFailed input.failures input'.failures ⊎ HasFailed output.failures output'.failures
  pub quiet : done ≢ Err Device → (input'.failures ≡ input.failures) × (output'.failures ≡ output.failures)
