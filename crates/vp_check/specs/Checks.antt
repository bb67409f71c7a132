-- What a check of a file finds: the outcome of each packet, whether it is read past its end, and the file's fault.
-- Pinned by the tests `check_tells_damage` and `check_of_a_file_cut_short`.
use Rattle.std.specs.Prelude.{◌≡◌, ◌==◌, ◌&&◌, ℕ, Bool, true, false, List, [], ◌∷◌, Option, None, Result, Ok, Err}
use Rattle.std.specs.Prelude.{count_by, is_none, length}
use Rattle.vp_base.specs.declared.limits.Limits.{Limits}
use Rattle.vp_ivf.specs.declared.packet.Packet.{Packet}
use Rattle.vp_ivf.specs.Reader.{finish_answer}
use Rattle.vp_decode.specs.declared.decoder.Outcome.{Outcome}
use Rattle.vp_decode.specs.declared.decoder.Outcome.TheVariants as code
use Rattle.vp_decode.specs.Step.{DecoderState, step, outcome}
use Rattle.vp_decode.specs.Corrupt.{corrupt}
use Rattle.vp_stream.specs.declared.fault.SurveyFault.{SurveyFault}
use Rattle.vp_stream.specs.Answers.{reading_of}
use Rattle.vp_stream.specs.PacketReader.{ending, IsStoppedBy}
use Rattle.vp_check.specs.declared.checked.Checked.{Checked}
use Rattle.vp_check.specs.declared.checked.CheckedPacket.{CheckedPacket}

-- ---- the packets

-- a packet in a decoder's state: its length, its outcome, and whether it is corrupt
abbrev pub check_of : Limits → Option DecoderState → List ℕ → CheckedPacket
check_of limits state packet =
    record {
      bytes = length packet;
      outcome = outcome (step limits state packet).1;
      corrupt = corrupt limits state packet;
    }

-- packets, one after another, starting from a state
abbrev pub checks_from : Limits → Option DecoderState → List Packet → List CheckedPacket
checks_from limits state [] = []
checks_from limits state (p ∷ ps) = check_of limits state p.bytes
    ∷ checks_from limits (step limits state p.bytes).0 ps

-- the packets of a file; the first one is decoded without a state
abbrev pub checks_of : Limits → List ℕ → List CheckedPacket
checks_of limits file = checks_from limits None (reading_of limits file).packets

-- ---- what is counted

-- the picture is shown
abbrev pub is_shown_outcome : Outcome → Bool
is_shown_outcome code.Shown = true
is_shown_outcome code.Hidden = false
is_shown_outcome (code.Fault f) = false

-- the packet is decoded and not shown
abbrev pub is_hidden_outcome : Outcome → Bool
is_hidden_outcome code.Shown = false
is_hidden_outcome code.Hidden = true
is_hidden_outcome (code.Fault f) = false

-- the packet can't be decoded
abbrev pub is_fault_outcome : Outcome → Bool
is_fault_outcome code.Shown = false
is_fault_outcome code.Hidden = false
is_fault_outcome (code.Fault f) = true

-- the same of a checked packet
abbrev pub is_shown_check : CheckedPacket → Bool
is_shown_check c = is_shown_outcome c.outcome

abbrev pub is_hidden_check : CheckedPacket → Bool
is_hidden_check c = is_hidden_outcome c.outcome

abbrev pub is_fault_check : CheckedPacket → Bool
is_fault_check c = is_fault_outcome c.outcome

-- a partition of the packet is read past its end
abbrev pub is_corrupt_check : CheckedPacket → Bool
is_corrupt_check c = c.corrupt

-- no packet has a fault or is corrupt, and the file has no fault
abbrev pub is_sound : Checked → Bool
is_sound c = is_none c.fault && ((count_by is_fault_check c.packets == 0) && (count_by is_corrupt_check c.packets == 0))

-- ---- the result

-- the file's head, all its packets and its fault are reported
pub record IsChecked (limits : Limits) (checked : Checked) (file : List ℕ) : Type 0 where
  pub head : checked.head ≡ (reading_of limits file).head
  pub packets : checked.packets ≡ checks_of limits file
  pub fault : finish_answer (reading_of limits file) ≡ ending checked.fault

-- the result of `check`: what is found, or a fault
abbrev pub IsCheckFor : Limits → Result Checked SurveyFault → List ℕ → Type 0
IsCheckFor limits (Ok checked) file = IsChecked limits checked file
IsCheckFor limits (Err fault) file = IsStoppedBy fault file
