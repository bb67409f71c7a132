-- The model of a stream: a growing file whose packets are all kept, and the history of all bytes fed to it. Pinned by
-- the tests `fed_byte_by_byte` and `file_cut_short`.
use Rattle.std.specs.Prelude.{◌≡◌, ◌+◌, ℕ, Bool, false, List, [], ◌++◌, length, Option, None}
use Rattle.vp_base.specs.declared.limits.Limits.{Limits}
use Rattle.vp_ivf.specs.declared.packet.Packet.{Packet}
use Rattle.vp_ivf.specs.declared.fault.FileFault.{FileFault}
use Rattle.vp_ivf.specs.Ivf.{Contents, stop, resume, with_prefix}
use Rattle.vp_ivf.specs.Reader.{refusal_at, ended_by}
use Rattle.vp_ivf.specs.Reader.{ReaderState}
use Rattle.vp_stream.specs.Answers.{reading_of}
use Rattle.vp_stream.specs.Seeking.{AreKeys}

-- the limits, the contents of the file so far with all packets, and whether its end was marked
pub record Stream : Type 0 where
  pub limits : Limits
  pub reading : Contents
  pub ended : Bool

-- a stream without any bytes
abbrev pub initial_stream : Limits → Stream
initial_stream limits = record { limits = limits; reading = stop None limits.packets None []; ended = false }

-- the error that the next piece is refused with: the file's fault, or `Ended` after its end
abbrev pub stream_refusal : Stream → Option FileFault
stream_refusal s = refusal_at s.reading.fault s.ended

-- the stream after a piece
abbrev pub after_piece : Stream → List ℕ → Stream
after_piece s piece = record s { reading = resume s.limits.packet_bytes s.reading piece }

-- the stream after its end is marked; a fault takes precedence
abbrev pub stream_after_end : Stream → Stream
stream_after_end s = record s { ended = ended_by s.reading.fault s.ended }

-- all bytes fed, and whether the end was marked before the file had a fault
pub record StreamHistory : Type 0 where
  pub fed : List ℕ
  pub ended : Bool

-- the history of a new stream
abbrev pub empty_stream_history : StreamHistory
empty_stream_history = record { fed = []; ended = false }

-- the history with one more piece
abbrev pub with_piece : StreamHistory → List ℕ → StreamHistory
with_piece h piece = record h { fed = h.fed ++ piece }

-- the history after the end is marked
abbrev pub with_end : StreamHistory → Option FileFault → StreamHistory
with_end h fault = record h { ended = ended_by fault h.ended }

-- the stream's state is determined by this history
pub record IsStreamAfter (s : Stream) (h : StreamHistory) : Type 0 where
  pub reading : s.reading ≡ reading_of s.limits h.fed
  pub ended : s.ended ≡ h.ended

-- the packets in all bytes fed
abbrev pub packets_of : Stream → StreamHistory → List Packet
packets_of s h = (reading_of s.limits h.fed).packets

-- ---- the representation: a reader whose packets were all taken, and these packets

-- the contents of the file, including the packets that were taken
abbrev pub with_taken_packets : ReaderState → List Packet → Contents
with_taken_packets r packets = with_prefix packets r.reading

-- the packets are taken from the reader, no more than the limit, and the key packet for each of them is known
pub record IsKept (limits : Limits) (r : ReaderState) (packets : List Packet) (keys : List (Option ℕ)) : Type 0 where
  pub max : r.max ≡ limits.packet_bytes
  pub taken : r.reading.packets ≡ []
  pub room : length packets + r.reading.left ≡ limits.packets
  pub places : AreKeys packets keys
