-- Valid names of streams (1 to 16 distinct names of 1 to 32 bytes), and the names of faults, as printed.
use Rattle.std.specs.Prelude.{ℕ, ◌==◌, ◌&&◌, ◌||◌, not, nat_le, Bool, true, List, [], ◌∷◌, length, codes}
use Rattle.std.specs.List.{list_all, list_any}
use Rattle.std.specs.Str.{bytes_eq}
use Rattle.vp_hub.specs.declared.event.HubFault.{HubFault}
use Rattle.vp_hub.specs.declared.event.HubFault.TheVariants.{UnknownStream, Ended, UnknownConn, AlreadyOpen, TooMany}
use Rattle.vp_hub.specs.declared.event.HubFault.TheVariants.{Failed, Memory}
use Rattle.vp_hub.specs.declared.session.ServeFault.{ServeFault}
use Rattle.vp_hub.specs.declared.session.ServeFault.TheVariants.{Hub, Device, ReadTurns}

-- a lower-case letter, a digit, `-` or `_`
abbrev pub is_name_byte : ℕ → Bool
is_name_byte b = (nat_le 97 b && nat_le b 122) || ((nat_le 48 b && nat_le b 57) || (b == 45 || b == 95))

-- 1 to 32 such characters
abbrev pub is_name : List ℕ → Bool
is_name name = nat_le 1 (length name) && (nat_le (length name) 32 && list_all is_name_byte name)

-- no two names are equal
unfoldable pub are_distinct : List (List ℕ) → Bool
are_distinct [] = true
are_distinct (name ∷ more) = not (list_any (λ x. bytes_eq x name) more) && are_distinct more

-- 1 to 16 distinct names
abbrev pub are_names : List (List ℕ) → Bool
are_names names = nat_le 1 (length names) && (nat_le (length names) 16
    && (list_all is_name names && are_distinct names))

-- ---- the names of faults, as printed

-- the name of a fault of the hub
abbrev pub hub_fault_name : HubFault → List ℕ
hub_fault_name UnknownStream = codes "UnknownStream"
hub_fault_name Ended = codes "Ended"
hub_fault_name UnknownConn = codes "UnknownConn"
hub_fault_name AlreadyOpen = codes "AlreadyOpen"
hub_fault_name TooMany = codes "TooMany"
hub_fault_name Failed = codes "Failed"
hub_fault_name Memory = codes "Memory"

-- the name of a fault of serving
abbrev pub serve_fault_name : ServeFault → List ℕ
serve_fault_name (Hub fault) = hub_fault_name fault
serve_fault_name Device = codes "Device"
serve_fault_name ReadTurns = codes "ReadTurns"
