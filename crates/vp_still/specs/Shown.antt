-- Private to the crate: a picture that is found if the packet shows one.
use Rattle.std.specs.Prelude.{◌≡◌, ℕ, List, Option, Some, None}
use Rattle.vp_base.specs.declared.limits.Limits.{Limits}
use Rattle.vp_ivf.specs.declared.packet.Packet.{Packet}
use Rattle.vp_stream.specs.Seeking.{answer_at}
use Rattle.vp_still.specs.declared.found.Found.{Found}
use Rattle.vp_still.specs.Found.{IsUnshown, IsShownAt}

-- the picture of packet `number`; None if it shows none
abbrev pub IsFoundFor : Limits → List Packet → ℕ → Option Found → Type 0
IsFoundFor limits packets number None = IsUnshown (answer_at limits packets number)
IsFoundFor limits packets number (Some f) = IsShownAt limits packets f × (f.number ≡ number)
