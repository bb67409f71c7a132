-- The lines that `vp8 decode` prints for faulty packets. Pinned by the test `truncated_then_no_reference`.
use Rattle.std.specs.Prelude.{ℕ, List, ◌++◌, map, codes, decimal}
use Rattle.std.specs.List.{concat}
use Rattle.vp_head.specs.declared.fault.PacketFault.{PacketFault}
use Rattle.vp_head.specs.Names.{packet_fault_name}

-- the number and the fault of a packet
abbrev pub fault_line : ℕ × PacketFault → List ℕ
fault_line f = codes "vp8: packet " ++ (decimal f.0 ++ (codes ": " ++ (packet_fault_name f.1 ++ codes "\n")))

-- a line for each faulty packet
abbrev pub fault_lines : List (ℕ × PacketFault) → List ℕ
fault_lines faults = concat (map fault_line faults)
