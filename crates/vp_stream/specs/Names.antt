-- The names of the faults of decoding a file, as printed. Pinned by the test `names_of_decode_faults`.
use Rattle.std.specs.Prelude.{ℕ, List, codes}
use Rattle.vp_ivf.specs.Names.{file_fault_name}
use Rattle.vp_stream.specs.declared.fault.DecodeFault.{DecodeFault}
use Rattle.vp_stream.specs.declared.fault.DecodeFault.TheVariants.{File, SizeChange, Device, ReadTurns, Memory}

-- the name of a fault of decoding
abbrev pub decode_fault_name : DecodeFault → List ℕ
decode_fault_name (File fault) = file_fault_name fault
decode_fault_name SizeChange = codes "SizeChange"
decode_fault_name Device = codes "Device"
decode_fault_name ReadTurns = codes "ReadTurns"
decode_fault_name Memory = codes "Memory"
