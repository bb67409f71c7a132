-- What was seen of a file's bytes. Pinned by the tests `a_witness_remembers` and `heads_with_faults`.
use Rattle.std.specs.Prelude.{ℕ, ◌+◌, ◌-◌, ◌^◌, ◌++◌, List, [], length, take, min, Option, None, Some, Result, Ok, Err}
use Rattle.vp_ivf.specs.declared.fault.FileFault.{FileFault}
use Rattle.vp_ivf.specs.Ivf.{next_head}
use Rattle.vp_ivf.specs.declared.packet.IvfHead.{IvfHead}
use Rattle.vp_hints.specs.declared.packets.PacketCount.{PacketCount}
use Rattle.vp_hints.specs.declared.seen.Seen.{Seen}
use Rattle.vp_hints.specs.Packets.{counted_after, first_count}

-- the first 128 bytes, the number of bytes, and the packets
pub record Sight : Type 0 where
  pub head : List ℕ
  pub bytes : ℕ
  pub packets : PacketCount

abbrev pub seen_head : Seen → List ℕ
seen_head s = s.head.items

abbrev pub seen_bytes : Seen → ℕ
seen_bytes s = s.bytes

abbrev pub seen_packets : Seen → PacketCount
seen_packets s = s.packets

abbrev pub seen_view : Seen → Sight
seen_view s = record { head = seen_head s; bytes = seen_bytes s; packets = seen_packets s }

abbrev pub nothing_seen : Sight
nothing_seen = record { head = []; bytes = 0; packets = first_count }

-- these bytes were seen too; the number of bytes saturates at 2^64 - 1
abbrev pub more_seen : Sight → List ℕ → Sight
more_seen s bytes = record {
  head = take 128 (s.head ++ bytes);
  bytes = min (s.bytes + length bytes) (2 ^ 64 - 1);
  packets = counted_after s.packets bytes;
}

-- the fault of a file's head, once it is there
abbrev pub fault_of_head : Result (Option IvfHead) FileFault → Option FileFault
fault_of_head (Ok h) = None
fault_of_head (Err fault) = Some fault

-- the fault that a file's first bytes show
abbrev pub head_fault : List ℕ → Option FileFault
head_fault head = fault_of_head (next_head head)
