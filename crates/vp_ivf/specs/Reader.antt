-- The model of an IVF reader: its state, the bytes fed so far, and the results of its calls. Pinned by the tests
-- `fed_byte_by_byte`, `file_cut_short` and `head_faults`.
use Rattle.std.specs.Prelude.{ℕ, Bool, true, false, ◌≡◌, ◌≤◌, ◌+◌, List, [], ◌∷◌, ◌++◌, length, drop, Option, Some}
use Rattle.std.specs.Prelude.{None, Result, Ok, Err, nat_lt}
use Rattle.vp_ivf.specs.declared.packet.Packet.{Packet}
use Rattle.vp_ivf.specs.declared.packet.IvfHead.{IvfHead}
use Rattle.vp_ivf.specs.declared.fault.FileFault.{FileFault}
use Rattle.vp_ivf.specs.declared.fault.FileFault.TheVariants.{Ended, Torn}
use Rattle.vp_ivf.specs.declared.fault.FeedError.{FeedError}
use Rattle.vp_ivf.specs.declared.fault.FeedError.TheVariants.{Fault}
use Rattle.vp_ivf.specs.Ivf.{Contents, read_file, read_from, stop}

-- a reader: the limits on the bytes of a packet and on packets, the contents of the file without the packets taken,
-- and whether it was ended
pub record ReaderState : Type 0 where
  pub max : ℕ
  pub limit : ℕ
  pub reading : Contents
  pub ended : Bool

-- a reader that was fed nothing
abbrev pub initial_reader : ℕ → ℕ → ReaderState
initial_reader max limit = record { max = max; limit = limit; reading = stop None limit None []; ended = false }

-- a history: all bytes fed, the number of packets taken, and whether the file was ended before a fault
pub record ReaderHistory : Type 0 where
  pub fed : List ℕ
  pub taken : ℕ
  pub ended : Bool

abbrev pub empty_reader_history : ReaderHistory
empty_reader_history = record { fed = []; taken = 0; ended = false }

-- the history after a piece was fed
abbrev pub with_reader_piece : ReaderHistory → List ℕ → ReaderHistory
with_reader_piece h piece = record h { fed = h.fed ++ piece }

-- the history after n packets were taken
abbrev pub with_taken : ReaderHistory → ℕ → ReaderHistory
with_taken h n = record h { taken = h.taken + n }

-- contents without their first n packets
abbrev pub without_packets : ℕ → Contents → Contents
without_packets n r = record r { packets = drop n r.packets }

-- the reader is in the state that this history gives
pub record IsReaderAfter (s : ReaderState) (h : ReaderHistory) : Type 0 where
  pub taken : h.taken ≤ length (read_file s.max s.limit h.fed).packets
  pub reading : s.reading ≡ without_packets h.taken (read_file s.max s.limit h.fed)
  pub ended : s.ended ≡ h.ended

-- the packets of all bytes fed
abbrev pub fed_packets : ReaderState → ReaderHistory → List Packet
fed_packets s h = (read_file s.max s.limit h.fed).packets

abbrev pub SameLimits : ReaderState → ReaderState → Type 0
SameLimits old new = (new.max ≡ old.max) × (new.limit ≡ old.limit)

-- why feed is rejected: the fault of the file, or Ended
abbrev pub refusal_at : Option FileFault → Bool → Option FileFault
refusal_at (Some fault) ended = Some fault
refusal_at None true = Some Ended
refusal_at None false = None

-- why a reader rejects a piece
abbrev pub refusal : ReaderState → Option FileFault
refusal s = refusal_at s.reading.fault s.ended

-- the result of feed: the fault of the file, if any
abbrev pub answer_by : Option FileFault → Result (Unit {0}) FeedError
answer_by None = Ok tt
answer_by (Some fault) = Err (Fault fault)

-- the file is ended, except after a fault
abbrev pub ended_by : Option FileFault → Bool → Bool
ended_by None ended = true
ended_by (Some fault) ended = ended

-- the reader after finish
abbrev pub after_end : ReaderState → ReaderState
after_end s = record s { ended = ended_by s.reading.fault s.ended }

-- the history after finish
abbrev pub with_reader_end : ReaderHistory → Option FileFault → ReaderHistory
with_reader_end h fault = record h { ended = ended_by fault h.ended }

-- the file ends inside its header or a packet
abbrev pub is_torn : Option IvfHead → List ℕ → Bool
is_torn None rest = true
is_torn (Some head) rest = nat_lt 0 (length rest)

-- the result of finish, by the fault of the file and whether its end is torn
abbrev pub finish_by : Option FileFault → Bool → Result (Unit {0}) FileFault
finish_by (Some fault) torn = Err fault
finish_by None true = Err Torn
finish_by None false = Ok tt

-- the result of finish
abbrev pub finish_answer : Contents → Result (Unit {0}) FileFault
finish_answer r = finish_by r.fault (is_torn r.head r.rest)

-- without a fault, reading the remaining bytes again gives nothing
abbrev pub IsSettled : ℕ → Contents → Type 0
IsSettled max r = r.fault ≡ None → read_from r.head max r.left r.rest ≡ stop r.head r.left None r.rest
