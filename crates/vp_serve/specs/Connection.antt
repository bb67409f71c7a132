-- One connection as contracts see it.
use Rattle.std.specs.Prelude.{ℕ, Bool, List, Option}
use Rattle.vp_hub.specs.declared.event.HubFault.{HubFault}

-- its number; the bytes that were read and not yet handed to the hub; the bytes of its reply that are not yet written;
-- whether it is closed once those are written, and the fault of the hub that asks for it; the time of its last reply or
-- write
pub record Connection : Type 0 where
  pub number : ℕ
  pub unsubmitted : List ℕ
  pub unsent : List ℕ
  pub closing : Bool
  pub fault : Option HubFault
  pub last_active : ℕ
