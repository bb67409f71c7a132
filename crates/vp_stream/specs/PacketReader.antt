-- A file while it is read, packet by packet. Public are only the conditions under which reading ends; the rest is for
-- private functions.
use Rattle.std.specs.Prelude.{◌≡◌, ℕ, ◌+◌, ◌-◌, ◌≤◌, ◌<◌, ◌^◌, Bool, true, false, List, [], ◌∷◌, ◌++◌, length, Option}
use Rattle.std.specs.Prelude.{Some, None, Result, Ok, Err, slice_get}
use Rattle.std.specs.Io.KnownBytes.{IsAtEnd}
use Rattle.vp_base.specs.declared.limits.Limits.{Limits}
use Rattle.vp_base.specs.Counted.{HasRisenBy}
use Rattle.vp_ivf.specs.declared.packet.Packet.{Packet}
use Rattle.vp_ivf.specs.declared.packet.IvfHead.{IvfHead}
use Rattle.vp_ivf.specs.declared.fault.FileFault.{FileFault}
use Rattle.vp_ivf.specs.declared.fault.FileFault.TheVariants.{Torn}
use Rattle.vp_ivf.specs.Ivf.{resume, with_prefix}
use Rattle.vp_ivf.specs.Reader as ivf
use Rattle.vp_ivf.specs.Reader.{ReaderState, without_packets, finish_answer}
use Rattle.vp_stream.specs.declared.fault.SurveyFault.{SurveyFault}
use Rattle.vp_stream.specs.declared.fault.SurveyFault.TheVariants.{Device, ReadTurns, Memory}
use Rattle.vp_stream.specs.declared.packet_reader.Next.{Next}
use Rattle.vp_stream.specs.declared.packet_reader.Next.TheVariants as next
use Rattle.vp_stream.specs.Answers.{reading_of}

-- the IVF reader that the bytes are fed to, and the number of reads that may still be made
pub record PacketReader : Type 0 where
  pub file : ReaderState
  pub turns : ℕ

-- before the first read
abbrev pub before_first_read : Limits → PacketReader
before_first_read limits = record { file = ivf.initial_reader limits.packet_bytes limits.packets; turns = 2 ^ 32 - 1 }

-- the state after these bytes were read and these packets returned
pub record IsReading (limits : Limits) (s : PacketReader) (fed : List ℕ) (given : List Packet) : Type 0 where
  pub max : s.file.max ≡ limits.packet_bytes
  pub reading : reading_of limits fed ≡ with_prefix given s.file.reading
  pub unended : s.file.ended ≡ false
  pub turns : 2 ^ 32 - 1 ≤ s.turns + length fed

-- each used turn was a call of `read`
abbrev pub HasRead : PacketReader → ℕ → ℕ → Type 0
HasRead s before now = (calls : ℕ) × (calls + s.turns ≡ 2 ^ 32 - 1) × HasRisenBy calls before now

-- ---- the next packet

-- the head with a packet, if both are there
abbrev pub headed : Option IvfHead → Option Packet → Option (IvfHead × Packet)
headed None packet = None
headed (Some head) None = None
headed (Some head) (Some packet) = Some (head, packet)

-- the next packet that is read and not returned yet
abbrev pub next_waiting : PacketReader → Option (IvfHead × Packet)
next_waiting s = headed s.file.reading.head (slice_get s.file.reading.packets 0)

-- without a head no packet is returned
abbrev pub without_front : Option IvfHead → ReaderState → ReaderState
without_front None file = file
without_front (Some head) file = record file { reading = without_packets 1 file.reading }

-- the state after that packet is returned
abbrev pub without_next : PacketReader → PacketReader
without_next s = record s { file = without_front s.file.reading.head s.file }

-- ---- one read

-- the state after a piece is read and fed
abbrev pub resumed : PacketReader → List ℕ → PacketReader
resumed s piece = record {
  file = record s.file { reading = resume s.file.max s.file.reading piece };
  turns = s.turns - 1;
}

-- a piece was fed; or the reader was at its end; or no reads were left; or the read failed and gave nothing
abbrev pub Took : Result Bool SurveyFault → PacketReader → PacketReader → Option (List ℕ) → List ℕ → Type 0
Took (Ok true) old new left piece = (0 < length piece) × (0 < old.turns) × (new ≡ resumed old piece)
Took (Ok false) old new left piece = (piece ≡ []) × IsAtEnd left × (new ≡ old)
Took (Err ReadTurns) old new left piece = (piece ≡ []) × (old.turns ≡ 0)
Took (Err Device) old new left piece = piece ≡ []
Took (Err Memory) old new left piece = Unit {0}

-- ---- what is returned

-- the answer to marking the end, given the file's fault
abbrev pub ending : Option FileFault → Result (Unit {0}) FileFault
ending None = Ok tt
ending (Some fault) = Err fault

-- all packets were returned, and the file has this fault; its end was reached, unless the fault is one before the end
pub record EndsReading (limits : Limits) (s : PacketReader) (left : Option (List ℕ)) (file : List ℕ)
    (given : List Packet) (fault : Option FileFault) : Type 0 where
  pub packets : (reading_of limits file).packets ≡ given
  pub answer : finish_answer (reading_of limits file) ≡ ending fault
  pub head : s.file.reading.head ≡ (reading_of limits file).head
  pub good : fault ≡ None → IsAtEnd left
  pub torn : fault ≡ Some Torn → IsAtEnd left

-- these packets are the first ones of the file
abbrev pub IsFront : Limits → List ℕ → List Packet → Type 0
IsFront limits file given = (later : List Packet) × ((reading_of limits file).packets ≡ given ++ later)

-- if no reads are left, each of them gave a byte at least
abbrev pub IsStoppedBy : SurveyFault → List ℕ → Type 0
IsStoppedBy ReadTurns file = 2 ^ 32 - 1 ≤ length file
IsStoppedBy Device file = Unit {0}
IsStoppedBy Memory file = Unit {0}

-- A failed read, or the last read, is reported after all packets of the file. If memory runs out, a prefix of the
-- packets was returned.
abbrev pub AreGivenAt : SurveyFault → Limits → List ℕ → List Packet → Type 0
AreGivenAt ReadTurns limits file given = (reading_of limits file).packets ≡ given
AreGivenAt Device limits file given = (reading_of limits file).packets ≡ given
AreGivenAt Memory limits file given = IsFront limits file given

-- the next item after the packets returned so far
abbrev pub GivesNext : Limits → Result Next SurveyFault → PacketReader → Option (List ℕ) → List ℕ → List Packet → Type 0
GivesNext limits (Ok (next.Packet head packet)) s left file given =
    IsReading limits s file (given ++ packet ∷ []) × ((reading_of limits file).head ≡ Some head)
GivesNext limits (Ok (next.End fault)) s left file given = EndsReading limits s left file given fault
GivesNext limits (Err fault) s left file given = IsStoppedBy fault file × AreGivenAt fault limits file given

-- after a packet, the used turns were calls of `read`; if no reads are left, all turns were
abbrev pub CountsReads : Result Next SurveyFault → PacketReader → ℕ → ℕ → Type 0
CountsReads (Ok (next.Packet head packet)) s before now = HasRead s before now
CountsReads (Ok (next.End fault)) s before now = Unit {0}
CountsReads (Err ReadTurns) s before now = HasRisenBy (2 ^ 32 - 1) before now
CountsReads (Err Device) s before now = Unit {0}
CountsReads (Err Memory) s before now = Unit {0}
