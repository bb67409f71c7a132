-- What a server does over a transport.
use Rattle.std.specs.Prelude.{◌≡◌, ◌==◌, ◌∷◌, ◌++◌, [], ℕ, List, Option, Some, None, flat_map, take}
use Rattle.std.specs.Prelude.{if◌then◌else◌}
use Rattle.vp_serve.specs.declared.reason.CloseReason.{CloseReason}
use Rattle.vp_serve.specs.declared.reason.CloseReason.TheVariants.{Finished, PeerEnded, IdleTimeout, OutOfMemory}
use Rattle.vp_serve.specs.declared.reason.CloseReason.TheVariants.{TransferFailed, HubRefused}
use Rattle.vp_serve.specs.declared.transport.ReadOutcome.{ReadOutcome}
use Rattle.vp_serve.specs.declared.transport.ReadOutcome.TheVariants as read
use Rattle.vp_serve.specs.declared.transport.WriteOutcome.{WriteOutcome}
use Rattle.vp_serve.specs.declared.transport.WriteOutcome.TheVariants as write
use Rattle.vp_serve.specs.Reasons.{reason_by}
use Rattle.vp_serve.specs.Transfer.{Transfer, Accepts, Reads, Writes, PeerEnds, Fails, Closes, Grows, Waits}
use Rattle.vp_serve.specs.Transfer.{Logs}
use Rattle.vp_serve.specs.ServerLoop.{LoopState, IsTrace, Action, Accepted, Rejected, Received, Submitted, Sent, Closed}
use Rattle.vp_serve.specs.ServerLoop.{Grown, Fed, Ended, Waited}

-- what the transport reported just before a connection is closed
abbrev pub causes : ℕ → CloseReason → List Transfer
causes c Finished = []
causes c PeerEnded = PeerEnds c ∷ []
causes c IdleTimeout = []
causes c OutOfMemory = []
causes c TransferFailed = Fails c ∷ []
causes c HubRefused = []

-- the transfers of an action
abbrev pub transfers_of : Action → List Transfer
transfers_of (Accepted c now) = Accepts c ∷ []
transfers_of (Rejected c fault) = Accepts c ∷ Closes c (reason_by (Some fault)) ∷ []
transfers_of (Received c bytes) = Reads c bytes ∷ []
transfers_of (Submitted c now line o) = []
transfers_of (Sent c now bytes) = Writes c bytes ∷ []
transfers_of (Closed c now reason o) = causes c reason ++ Closes c reason ∷ []
transfers_of (Grown piece) = Grows piece.place piece.name piece.bytes ∷ []
transfers_of (Fed piece o) = []
transfers_of (Ended name o) = []
transfers_of (Waited busy clock) = Waits busy clock ∷ []

-- ---- one call

abbrev pub read_count : ReadOutcome → ℕ
read_count (read.Bytes n) = n
read_count read.WouldBlock = 0
read_count read.EndOfInput = 0
read_count read.Failed = 0

abbrev pub written_count : WriteOutcome → ℕ
written_count (write.Bytes n) = n
written_count write.WouldBlock = 0
written_count write.Failed = 0

abbrev pub read_transfers : ℕ → ReadOutcome → List ℕ → List Transfer
read_transfers c (read.Bytes n) buffer = Reads c (take n buffer) ∷ []
read_transfers c read.WouldBlock buffer = []
read_transfers c read.EndOfInput buffer = PeerEnds c ∷ []
read_transfers c read.Failed buffer = Fails c ∷ []

abbrev pub write_transfers : ℕ → WriteOutcome → List ℕ → List Transfer
write_transfers c (write.Bytes n) bytes = Writes c (take n bytes) ∷ []
write_transfers c write.WouldBlock bytes = []
write_transfers c write.Failed bytes = Fails c ∷ []

abbrev pub grown_transfers : ℕ → List ℕ → ℕ → List ℕ → List Transfer
grown_transfers place name n bytes = if n == 0 then [] else Grows place name (take n bytes) ∷ []

abbrev pub piece_transfers : ℕ → List ℕ → Option (List ℕ) → List Transfer
piece_transfers place name None = []
piece_transfers place name (Some bytes) = Grows place name bytes ∷ []

-- ---- the whole

abbrev pub ended_names : Action → List (List ℕ)
ended_names (Accepted c now) = []
ended_names (Rejected c fault) = []
ended_names (Received c bytes) = []
ended_names (Submitted c now line o) = []
ended_names (Sent c now bytes) = []
ended_names (Closed c now reason o) = []
ended_names (Grown piece) = []
ended_names (Fed piece o) = []
ended_names (Ended name o) = name ∷ []
ended_names (Waited busy clock) = []

-- The server performs a trace, and just its transfers pass over the transport. The end of no stream is reported.
pub record ContinuesLoop (old new : LoopState) (before after : Option (List Transfer)) : Type 0 where
  pub trace : List Action
  pub is_trace : IsTrace old trace new
  pub logs : Logs before after (flat_map transfers_of trace)
  pub follows : flat_map ended_names trace ≡ []
