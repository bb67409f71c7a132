-- Private to the crate: a file while it is checked, piece by piece.
use Rattle.std.specs.Prelude.{◌≡◌, ◌≢◌, ◌⊎◌, ◌<◌, ℕ, Bool, true, false, List, [], ◌∷◌, ◌++◌, length, Option, None, Some}
use Rattle.std.specs.Prelude.{IsSome, Result, Ok, Err}
use Rattle.std.specs.Io.KnownBytes.{IsAtEnd}
use Rattle.vp_base.specs.declared.limits.Limits.{Limits}
use Rattle.vp_ivf.specs.declared.packet.IvfHead.{IvfHead}
use Rattle.vp_ivf.specs.declared.packet.Packet.{Packet}
use Rattle.vp_ivf.specs.declared.fault.FileFault.{FileFault}
use Rattle.vp_ivf.specs.declared.fault.FileFault.TheVariants.{Torn}
use Rattle.vp_ivf.specs.Ivf.{resume}
use Rattle.vp_ivf.specs.Reader.{ReaderState, finish_answer}
use Rattle.vp_decode.specs.Step.{DecoderState, step}
use Rattle.vp_stream.specs.declared.fault.SurveyFault.{SurveyFault}
use Rattle.vp_stream.specs.declared.fault.SurveyFault.TheVariants.{ReadTurns}
use Rattle.vp_stream.specs.Answers.{reading_of}
use Rattle.vp_stream.specs.PacketReader.{ending, IsStoppedBy}
use Rattle.vp_check.specs.declared.checked.CheckedPacket.{CheckedPacket}
use Rattle.vp_check.specs.Checks.{check_of, checks_of}

-- the limits, the decoder's state, and what is found in the packets so far
pub record PacketChecker : Type 0 where
  pub limits : Limits
  pub state : Option DecoderState
  pub checks : List CheckedPacket

-- before the first packet
abbrev pub before_packets : Limits → PacketChecker
before_packets limits = record { limits = limits; state = None; checks = [] }

-- after a packet
abbrev pub after_packet : PacketChecker → List ℕ → PacketChecker
after_packet c packet = record {
  limits = c.limits;
  state = (step c.limits c.state packet).0;
  checks = c.checks ++ check_of c.limits c.state packet ∷ [];
}

-- after packets, one after another
abbrev pub after_packets : PacketChecker → List Packet → PacketChecker
after_packets c [] = c
after_packets c (p ∷ ps) = after_packets (after_packet c p.bytes) ps

-- one read: a piece without a fault is fed; or the reader is at its end, or the piece has the file's fault; or the read
-- fails, or memory runs out
abbrev pub ReadsPiece : Result Bool SurveyFault → ReaderState → ReaderState → List ℕ → Option (List ℕ) → Type 0
ReadsPiece (Ok true) old new piece left =
    (0 < length piece) × (new ≡ record old { reading = resume old.max old.reading piece }) × (new.reading.fault ≡ None)
ReadsPiece (Ok false) old new piece left =
    ((piece ≡ []) × (new ≡ old) × IsAtEnd left)
    ⊎ ((new ≡ record old { reading = resume old.max old.reading piece }) × IsSome new.reading.fault)
ReadsPiece (Err fault) old new piece left = fault ≢ ReadTurns

-- all packets of the file are checked, and it has this head and this fault; its end was reached, unless the fault is
-- one before the end
pub record IsWholeChecked (limits : Limits) (head : Option IvfHead) (fault : Option FileFault) (c : PacketChecker)
    (file : List ℕ) (left : Option (List ℕ)) : Type 0 where
  pub head_is : head ≡ (reading_of limits file).head
  pub checks : c.checks ≡ checks_of limits file
  pub answer : finish_answer (reading_of limits file) ≡ ending fault
  pub good : fault ≡ None → IsAtEnd left
  pub torn : fault ≡ Some Torn → IsAtEnd left

-- the whole file is checked; or reading stops, and if no reads are left, each of them gave a byte
abbrev pub EndsChecking : Limits → Result (Option IvfHead × Option FileFault) SurveyFault → PacketChecker → List ℕ
    → Option (List ℕ) → Type 0
EndsChecking limits (Ok found) c file left = IsWholeChecked limits found.0 found.1 c file left
EndsChecking limits (Err fault) c file left = IsStoppedBy fault file
