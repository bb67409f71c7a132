-- The results of `decode_all` and `survey`: the report or the fault, and the output in each case. Pinned by the tests
-- `file_cut_short` and `a_read_or_a_write_fails`.
use Rattle.std.specs.Prelude.{◌≡◌, ◌≤◌, ◌-◌, ◌^◌, ◌⊎◌, ℕ, true, false, List, Option, Result, Ok, Err, length}
use Rattle.std.specs.Io.KnownBytes.{Appends}
use Rattle.vp_base.specs.declared.limits.Limits.{Limits}
use Rattle.vp_base.specs.Counted.{AppendsPrefix}
use Rattle.vp_ivf.specs.Reader.{finish_answer}
use Rattle.vp_stream.specs.declared.report.Report.{Report}
use Rattle.vp_stream.specs.declared.form.Form.{Form}
use Rattle.vp_stream.specs.declared.fault.DecodeFault.{DecodeFault}
use Rattle.vp_stream.specs.declared.fault.DecodeFault.TheVariants.{File, SizeChange, Device, ReadTurns, Memory}
use Rattle.vp_stream.specs.declared.fault.SurveyFault.{SurveyFault}
use Rattle.vp_stream.specs.declared.outcomes.Survey.{Survey}
use Rattle.vp_stream.specs.Answers.{reading_of, answers_of}
use Rattle.vp_stream.specs.Texts.{decoded_text, pictures_of, changes_size}
use Rattle.vp_stream.specs.Reports.{report_of, outcomes_of}
use Rattle.vp_stream.specs.PacketReader.{ending, IsStoppedBy}

-- all output for the file is appended, if the writer's bytes are known
abbrev pub WritesText : Limits → Form → List ℕ → Option (List ℕ) → Option (List ℕ) → Type 0
WritesText limits form file before after = Appends before after (decoded_text limits form file)

-- a prefix of the output for the file is appended, if the writer's bytes are known
abbrev pub WritesPrefix : Limits → Form → List ℕ → Option (List ℕ) → Option (List ℕ) → Type 0
WritesPrefix limits form file before after = AppendsPrefix before after (decoded_text limits form file)

-- all output is appended, and all pictures have the required size
abbrev pub WritesAll : Limits → Form → List ℕ → Option (List ℕ) → Option (List ℕ) → Type 0
WritesAll limits form file before after =
    (changes_size form (pictures_of limits file) ≡ false) × WritesText limits form file before after

-- the result is a report, and the file ends without a fault
pub record IsDecodeReported (limits : Limits) (form : Form) (report : Report) (file : List ℕ)
    (before after : Option (List ℕ)) : Type 0 where
  pub ends : finish_answer (reading_of limits file) ≡ Ok tt
  pub counts : report ≡ report_of (answers_of limits file)
  pub writes : WritesAll limits form file before after

-- Each fault, and the output written before it. A fault of the file: the output for all packets before it. A picture of
-- another size: the output before it. A failed read, or no reads left: the output for all packets read. A failed write,
-- or out of memory: a prefix of the output. If no reads are left, each of them gave a byte.
abbrev pub IsDecodeEndedBy : Limits → Form → DecodeFault → Type 0 → List ℕ → Option (List ℕ) → Option (List ℕ) → Type 0
IsDecodeEndedBy limits form (File fault) write_failed file before after =
    (finish_answer (reading_of limits file) ≡ Err fault) × WritesAll limits form file before after
IsDecodeEndedBy limits form SizeChange write_failed file before after =
    (changes_size form (pictures_of limits file) ≡ true) × WritesText limits form file before after
IsDecodeEndedBy limits form Device write_failed file before after =
    WritesAll limits form file before after ⊎ (write_failed × WritesPrefix limits form file before after)
IsDecodeEndedBy limits form ReadTurns write_failed file before after =
    (2 ^ 32 - 1 ≤ length file) × WritesAll limits form file before after
IsDecodeEndedBy limits form Memory write_failed file before after = WritesPrefix limits form file before after

-- the result of `decode_all`: a report, or a fault
abbrev pub IsDecodeAnswerFor : Limits → Form → Result Report DecodeFault → Type 0 → List ℕ → Option (List ℕ)
    → Option (List ℕ) → Type 0
IsDecodeAnswerFor limits form (Ok report) write_failed file before after = IsDecodeReported limits form report file
    before after
IsDecodeAnswerFor limits form (Err fault) write_failed file before after = IsDecodeEndedBy limits form fault
    write_failed file before after

-- ---- a survey

-- the survey has the file's head, the outcomes of all packets, and the file's fault
pub record IsSurveyed (limits : Limits) (survey : Survey) (file : List ℕ) : Type 0 where
  pub head : survey.head ≡ (reading_of limits file).head
  pub packets : survey.packets ≡ outcomes_of limits file
  pub fault : finish_answer (reading_of limits file) ≡ ending survey.fault

-- the result of `survey`: a survey, or a fault
abbrev pub IsSurveyFor : Limits → Result Survey SurveyFault → List ℕ → Type 0
IsSurveyFor limits (Ok survey) file = IsSurveyed limits survey file
IsSurveyFor limits (Err fault) file = IsStoppedBy fault file
