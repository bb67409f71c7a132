-- The exit status of `vp8 decode`: 1 after a fault, including a packet's fault, else 0. Pinned by the test
-- `truncated_then_no_reference`.
use Rattle.std.specs.Prelude.{ℕ, List, [], ◌∷◌, Result, Ok, Err}
use Rattle.vp_head.specs.declared.fault.PacketFault.{PacketFault}
use Rattle.vp_stream.specs.declared.report.Report.{Report}
use Rattle.vp_stream.specs.declared.fault.DecodeFault.{DecodeFault}

-- 1 if a packet has a fault
abbrev pub status_by : List (ℕ × PacketFault) → ℕ
status_by [] = 0
status_by (f ∷ fs) = 1

-- the exit status of decoding
abbrev pub status_of : Result Report DecodeFault → ℕ
status_of (Ok report) = status_by report.faults
status_of (Err fault) = 1
