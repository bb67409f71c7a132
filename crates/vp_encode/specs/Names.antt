-- The names of the faults of encoding a file, as printed.
use Rattle.std.specs.Prelude.{ℕ, List, codes}
use Rattle.vp_encode.specs.declared.report.EncodeAllFault.{EncodeAllFault}
use Rattle.vp_encode.specs.declared.report.EncodeAllFault.TheVariants as fault

-- the name of a fault of encoding
abbrev pub encode_fault_name : EncodeAllFault → List ℕ
encode_fault_name fault.Magic = codes "Magic"
encode_fault_name fault.Size = codes "Size"
encode_fault_name fault.Colour = codes "Colour"
encode_fault_name fault.Interlaced = codes "Interlaced"
encode_fault_name fault.Torn = codes "Torn"
encode_fault_name fault.Settings = codes "Settings"
encode_fault_name fault.TooMany = codes "TooMany"
encode_fault_name fault.TooLong = codes "TooLong"
encode_fault_name fault.PacketTooLarge = codes "PacketTooLarge"
encode_fault_name fault.Device = codes "Device"
encode_fault_name fault.Memory = codes "Memory"
