-- What passes over the transport.
use Rattle.std.specs.Prelude.{◌≡◌, ◌++◌, ℕ, Bool, List, Option, Some, None}
use Rattle.vp_serve.specs.declared.reason.CloseReason.{CloseReason}

-- connection c is accepted; bytes are read from it; it takes bytes; its peer ends; a read or a write of it fails; it is
-- closed; the file at an index, of the stream of this name, has more bytes; the server waits, or looks what is ready if
-- it is busy, and the clock says this
pub data Transfer : Type 0 where
  Accepts : (c : ℕ) → Transfer
  Reads : (c : ℕ) (bytes : List ℕ) → Transfer
  Writes : (c : ℕ) (bytes : List ℕ) → Transfer
  PeerEnds : (c : ℕ) → Transfer
  Fails : (c : ℕ) → Transfer
  Closes : (c : ℕ) (reason : CloseReason) → Transfer
  Grows : (place : ℕ) (name bytes : List ℕ) → Transfer
  Waits : (busy : Bool) (clock : ℕ) → Transfer

-- a log, if it is known, grows by these
abbrev pub Logs : Option (List Transfer) → Option (List Transfer) → List Transfer → Type 0
Logs None new ts = new ≡ None
Logs (Some l) new ts = new ≡ Some (l ++ ts)
