-- The names of packet faults, as printed. Pinned by the test `names_of_packet_faults`.
use Rattle.std.specs.Prelude.{ℕ, List, ◌++◌, codes, decimal}
use Rattle.vp_head.specs.declared.fault.PacketFault.{PacketFault}
use Rattle.vp_head.specs.declared.fault.PacketFault.TheVariants.{Truncated, Version, StartCode, Size, TooLarge}
use Rattle.vp_head.specs.declared.fault.PacketFault.TheVariants.{NoReference, FirstPartition, PartitionTable, Partition}

-- the name of a fault as ASCII codes
abbrev pub packet_fault_name : PacketFault → List ℕ
packet_fault_name Truncated = codes "Truncated"
packet_fault_name Version = codes "Version"
packet_fault_name StartCode = codes "StartCode"
packet_fault_name Size = codes "Size"
packet_fault_name TooLarge = codes "TooLarge"
packet_fault_name NoReference = codes "NoReference"
packet_fault_name FirstPartition = codes "FirstPartition"
packet_fault_name PartitionTable = codes "PartitionTable"
packet_fault_name (Partition i) = codes "Partition " ++ decimal i
