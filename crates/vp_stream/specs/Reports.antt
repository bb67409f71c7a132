-- The report of decoding a file: the numbers of pictures, and the number and fault of each faulty packet. Pinned by the
-- tests `numbers_of_a_report` and `survey_of_three_packets`.
use Rattle.std.specs.Prelude.{ℕ, Bool, true, false, List, Option, Some, None, length, count_by, map}
use Rattle.std.specs.List.{filter_map, enumerate_from, zip}
use Rattle.vp_base.specs.declared.limits.Limits.{Limits}
use Rattle.vp_head.specs.declared.fault.PacketFault.{PacketFault}
use Rattle.vp_ivf.specs.declared.packet.Packet.{Packet}
use Rattle.vp_decode.specs.declared.decoder.Outcome.{Outcome}
use Rattle.vp_decode.specs.Step.{Answer, Shown, Hidden, Fault, outcome}
use Rattle.vp_stream.specs.declared.report.Report.{Report}
use Rattle.vp_stream.specs.Answers.{reading_of, answers_of}

-- a picture is shown
abbrev pub is_shown : Answer → Bool
is_shown (Shown p) = true
is_shown _ = false

-- the packet is decoded and not shown
abbrev pub is_hidden : Answer → Bool
is_hidden Hidden = true
is_hidden _ = false

-- the number and the fault of a packet, if it has a fault
abbrev pub fault_at : ℕ → Answer → Option (ℕ × PacketFault)
fault_at number (Fault f) = Some (number, f)
fault_at number _ = None

-- the faulty packets; `first` is the number of the first answer
abbrev pub faults_from : ℕ → List Answer → List (ℕ × PacketFault)
faults_from first answers = filter_map (λ e. fault_at e.0 e.1) (enumerate_from first answers)

-- the report for these answers
abbrev pub report_of : List Answer → Report
report_of answers = record {
  packets = length answers;
  shown = count_by is_shown answers;
  hidden = count_by is_hidden answers;
  faults = faults_from 0 answers;
}

-- the length in bytes and the outcome of each packet
abbrev pub outcomes : List Packet → List Answer → List (ℕ × Outcome)
outcomes packets answers = zip (map (λ (p : Packet). length p.bytes) packets) (map outcome answers)

-- the outcomes of the packets of a file
abbrev pub outcomes_of : Limits → List ℕ → List (ℕ × Outcome)
outcomes_of limits file = outcomes (reading_of limits file).packets (answers_of limits file)
