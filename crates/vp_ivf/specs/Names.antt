-- The names of the faults of IVF files, as printed. Pinned by the test `names_of_file_faults`.
use Rattle.std.specs.Prelude.{ℕ, List, codes}
use Rattle.vp_ivf.specs.declared.fault.FileFault.{FileFault}
use Rattle.vp_ivf.specs.declared.fault.FileFault.TheVariants.{Signature, Codec, TooMany, PacketTooLarge, Torn, Ended}

-- the name of a fault as ASCII codes
abbrev pub file_fault_name : FileFault → List ℕ
file_fault_name Signature = codes "Signature"
file_fault_name Codec = codes "Codec"
file_fault_name TooMany = codes "TooMany"
file_fault_name PacketTooLarge = codes "PacketTooLarge"
file_fault_name Torn = codes "Torn"
file_fault_name Ended = codes "Ended"
