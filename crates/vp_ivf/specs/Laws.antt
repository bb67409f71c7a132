-- Laws of IVF files: reading in pieces, growing files, the bytes of a file and its packets, and the laws that
-- determine the reading.
use Rattle.std.specs.Prelude.{◌≡◌, ◌≢◌, ◌<◌, ◌≤◌, ◌^◌, ◌-◌, ◌+◌, ◌⊎◌, ℕ, true, false, nat_eq, codes, List, [], ◌∷◌}
use Rattle.std.specs.Prelude.{◌++◌, length, drop, slice_index, Option, Some, None, Ok}
use Rattle.std.specs.List.{starts_with}
use Rattle.vp_ivf.specs.declared.packet.Packet.{Packet}
use Rattle.vp_ivf.specs.declared.packet.IvfHead.{IvfHead}
use Rattle.vp_ivf.specs.declared.fault.FileFault.{FileFault}
use Rattle.vp_ivf.specs.declared.fault.FileFault.TheVariants.{Signature, Codec, TooMany, PacketTooLarge, Torn, Ended}
use Rattle.vp_ivf.specs.Ivf.{Contents, packet_size, parsed_ivf_head, read_file, resume}
use Rattle.vp_ivf.specs.Reader.{IsSettled, finish_answer}
use Rattle.vp_ivf.specs.Text.{packets_text, file_text}

-- each number is below 256
abbrev pub AreFileBytes : List ℕ → Type 0
AreFileBytes b = (i : ℕ) → slice_index b i < 256

-- A file with a valid header is that header, the packets that were read, and the remaining bytes.
abbrev pub IsFaithful : Type 0
IsFaithful = (max n : ℕ) (b : List ℕ) (h : IvfHead) → AreFileBytes b
    → (read_file max n b).head ≡ Some h
    → drop 32 b ≡ packets_text (read_file max n b).packets ++ (read_file max n b).rest

-- A file may be read in two pieces.
abbrev pub IsReadInPieces : Type 0
IsReadInPieces = (max n : ℕ) (b more : List ℕ) → read_file max n (b ++ more) ≡ resume max (read_file max n b) more

-- Appended bytes change no packet that was read; later packets may be added.
abbrev pub KeepsPackets : Type 0
KeepsPackets = (max n : ℕ) (b more : List ℕ) → (later : List Packet)
    × ((read_file max n (b ++ more)).packets ≡ (read_file max n b).packets ++ later)

-- Appended bytes do not change a file header that was read.
abbrev pub KeepsHead : Type 0
KeepsHead = (max n : ℕ) (b more : List ℕ) (h : IvfHead) → (read_file max n b).head ≡ Some h
    → (read_file max n (b ++ more)).head ≡ Some h

-- Appended bytes do not change a fault.
abbrev pub KeepsFault : Type 0
KeepsFault = (max n : ℕ) (b more : List ℕ) (f : FileFault) → (read_file max n b).fault ≡ Some f
    → read_file max n (b ++ more) ≡ record (read_file max n b) { rest = (read_file max n b).rest ++ more }

-- a packet whose fields fit the format, and whose size is at most max
pub record PacketFits (max : ℕ) (p : Packet) : Type 0 where
  pub time : p.time < 2 ^ 64
  pub size : length p.bytes < 2 ^ 32
  pub allowed : length p.bytes ≤ max

-- each packet fits the format, and its size is at most max
abbrev pub AllPacketsFit : ℕ → List Packet → Type 0
AllPacketsFit max [] = Unit {0}
AllPacketsFit max (p ∷ ps) = PacketFits max p × AllPacketsFit max ps

-- a file header whose fields fit the format
abbrev pub IsHead : IvfHead → Type 0
IsHead h = (h.w < 2 ^ 16) × (h.h < 2 ^ 16) × (h.rate < 2 ^ 32) × (h.scale < 2 ^ 32)

-- A written file is read as its header and its packets, and nothing else, under all limits that it satisfies.
abbrev pub IsReadBack : Type 0
IsReadBack = (max n : ℕ) (h : IvfHead) (count : ℕ) (packets : List Packet) → IsHead h → AllPacketsFit max packets
    → length packets ≤ n
    → read_file max n (file_text h count packets)
    ≡ record { head = Some h; packets = packets; left = n - length packets; fault = None; rest = [] }

-- A written file does not end inside a packet.
abbrev pub EndsWell : Type 0
EndsWell = (max n : ℕ) (h : IvfHead) (count : ℕ) (packets : List Packet) → IsHead h → AllPacketsFit max packets
    → length packets ≤ n
    → finish_answer (read_file max n (file_text h count packets)) ≡ Ok tt

-- the remaining bytes are less than a file header, or else less than the first packet with its 12 bytes of header
abbrev pub HasTooFewBytes : Option IvfHead → List ℕ → Type 0
HasTooFewBytes None rest = length rest < 32
HasTooFewBytes (Some h) rest = (length rest < 12) ⊎ (length rest < 12 + packet_size rest)

-- Without a fault, all complete packets are read.
abbrev pub CutsAll : Type 0
CutsAll = (max n : ℕ) (b : List ℕ) → (read_file max n b).fault ≡ None
    → HasTooFewBytes (read_file max n b).head (read_file max n b).rest

-- Reading the remaining bytes again gives nothing.
abbrev pub LeavesNoPacket : Type 0
LeavesNoPacket = (max n : ℕ) (b : List ℕ) → IsSettled max (read_file max n b)

-- The packets that are read and those still allowed add up to the limit.
abbrev pub CountsPackets : Type 0
CountsPackets = (max n : ℕ) (b : List ℕ) → (read_file max n b).left + length (read_file max n b).packets ≡ n

-- The packets that are read satisfy the limits, and can be written.
abbrev pub CutsWhatFits : Type 0
CutsWhatFits = (max n : ℕ) (b : List ℕ) → AreFileBytes b → AllPacketsFit max (read_file max n b).packets

-- the remaining bytes prove this fault
abbrev pub ShowsFileFault : FileFault → ℕ → Contents → Type 0
ShowsFileFault Signature max r = (32 ≤ length r.rest) × (starts_with nat_eq r.rest (codes "DKIF") ≡ false)
ShowsFileFault Codec max r = (32 ≤ length r.rest) × (starts_with nat_eq r.rest (codes "DKIF") ≡ true)
    × (starts_with nat_eq (drop 8 r.rest) (codes "VP80") ≡ false)
ShowsFileFault TooMany max r = (r.left ≡ 0) × (12 ≤ length r.rest)
ShowsFileFault PacketTooLarge max r = (1 ≤ r.left) × (12 ≤ length r.rest) × (max < packet_size r.rest)
ShowsFileFault Torn max r = ⊥
ShowsFileFault Ended max r = ⊥

-- The remaining bytes prove the fault that is reported.
abbrev pub ShowsFaults : Type 0
ShowsFaults = (max n : ℕ) (b : List ℕ) (f : FileFault) → (read_file max n b).fault ≡ Some f
    → ShowsFileFault f max (read_file max n b)

-- ---- The laws that determine the reading

-- the bytes begin with a valid file header that has these fields
abbrev pub IsHeadIn : List ℕ → IvfHead → Type 0
IsHeadIn b h = (32 ≤ length b) × (starts_with nat_eq b (codes "DKIF") ≡ true)
    × (starts_with nat_eq (drop 8 b) (codes "VP80") ≡ true) × (h ≡ parsed_ivf_head b)

-- without a header no packet is read; else the bytes are a valid header, the packets, and the remaining bytes
abbrev pub IsCut : List ℕ → Option IvfHead → List Packet → List ℕ → Type 0
IsCut b None packets rest = (packets ≡ []) × (rest ≡ b)
IsCut b (Some h) packets rest = IsHeadIn b h × (drop 32 b ≡ packets_text packets ++ rest)

-- faults of the file header occur without a header, those of a packet with one
abbrev pub ComesWith : FileFault → Option IvfHead → Type 0
ComesWith Signature head = head ≡ None
ComesWith Codec head = head ≡ None
ComesWith TooMany head = head ≢ None
ComesWith PacketTooLarge head = head ≢ None
ComesWith Torn head = ⊥
ComesWith Ended head = ⊥

-- the remaining bytes may still be the start of a file header, or of a packet that is allowed
abbrev pub MayGrow : Option IvfHead → ℕ → ℕ → List ℕ → Type 0
MayGrow None max left rest = length rest < 32
MayGrow (Some h) max left rest = (length rest < 12) ⊎ ((1 ≤ left) × (packet_size rest ≤ max)
    × (length rest < 12 + packet_size rest))

-- without a fault the remaining bytes may still grow to a header or packet; else they prove the fault
abbrev pub IsReadingEndedBy : ℕ → Contents → Option FileFault → Type 0
IsReadingEndedBy max r None = MayGrow r.head max r.left r.rest
IsReadingEndedBy max r (Some f) = ShowsFileFault f max r × ComesWith f r.head

-- the laws of the contents of a file
pub record KeepsLaws (max n : ℕ) (b : List ℕ) (r : Contents) : Type 0 where
  pub cut : IsCut b r.head r.packets r.rest
  pub fits : AllPacketsFit max r.packets
  pub count : r.left + length r.packets ≡ n
  pub ended : IsReadingEndedBy max r r.fault

-- The contents of a file obey the laws.
abbrev pub ObeysLaws : Type 0
ObeysLaws = (max n : ℕ) (b : List ℕ) → AreFileBytes b → KeepsLaws max n b (read_file max n b)

-- Nothing else obeys the laws.
abbrev pub IsDetermined : Type 0
IsDetermined = (max n : ℕ) (b : List ℕ) (r : Contents) → KeepsLaws max n b r → r ≡ read_file max n b
