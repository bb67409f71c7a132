-- The names of the faults of WebP files, as printed. Pinned by the test `names_of_webp_faults`.
use Rattle.std.specs.Prelude.{ℕ, List, codes}
use Rattle.vp_webp.specs.declared.fault.WebPFault.{WebPFault}
use Rattle.vp_webp.specs.declared.fault.WebPFault.TheVariants.{Signature, Torn, Lossless, Animated, NoPicture, NotKey}
use Rattle.vp_webp.specs.declared.fault.WebPFault.TheVariants.{Hidden}
use Rattle.vp_webp.specs.declared.fault.WebPWriteFault.{WebPWriteFault}
use Rattle.vp_webp.specs.declared.fault.WebPWriteFault.TheVariants.{TooLong, Device}
use Rattle.vp_webp.specs.declared.fault.WebPWriteFault.TheVariants.{NotKey as NoKey, Hidden as NotShown}

-- the name of a fault as ASCII codes
abbrev pub webp_fault_name : WebPFault → List ℕ
webp_fault_name Signature = codes "Signature"
webp_fault_name Torn = codes "Torn"
webp_fault_name Lossless = codes "Lossless"
webp_fault_name Animated = codes "Animated"
webp_fault_name NoPicture = codes "NoPicture"
webp_fault_name NotKey = codes "NotKey"
webp_fault_name Hidden = codes "Hidden"

-- the name of a fault of writing as ASCII codes
abbrev pub webp_write_fault_name : WebPWriteFault → List ℕ
webp_write_fault_name NoKey = codes "NotKey"
webp_write_fault_name NotShown = codes "Hidden"
webp_write_fault_name TooLong = codes "TooLong"
webp_write_fault_name Device = codes "Device"
