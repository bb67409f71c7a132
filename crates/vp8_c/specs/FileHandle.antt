-- The file of a handle: the pictures that a caller requests, and the state after each call. Pinned by the tests
-- `a_file_is_asked`, `a_file_is_told`, `a_file_is_fed` and `pieces_are_refused`.
use Rattle.std.specs.Prelude.{◌≡◌, ◌≢◌, ◌<◌, ℕ, List, length, Option, Some, None, Result, Err, ok_or, option_and_then}
use Rattle.vp_ivf.specs.declared.packet.IvfHead.{IvfHead}
use Rattle.vp_ivf.specs.declared.fault.FileFault.{FileFault}
use Rattle.vp_ivf.specs.Reader.{finish_answer}
use Rattle.vp_stream.specs.PacketReader.{ending}
use Rattle.vp_stream.specs.Answers.{reading_of}
use Rattle.vp_stream.specs.Seeking.{AnswerValue, answer_at, answer_value}
use Rattle.vp_stream.specs.Seeking as seeking
use Rattle.vp_stream.specs.Stream.{StreamHistory, IsStreamAfter, after_piece, empty_stream_history, stream_after_end}
use Rattle.vp_stream.specs.Stream.{stream_refusal, with_end, with_piece}
use Rattle.vp8_c.specs.declared.status.TheConstants.{CLOSED, MEMORY, NO_PICTURE}
use Rattle.vp8_c.specs.declared.file_handle.FileHandle.{FileHandle}
use Rattle.vp8_c.specs.declared.file_handle.KeptPicture.{KeptPicture}
use Rattle.vp8_c.specs.declared.file_handle.StreamInfo.{StreamInfo}
use Rattle.vp8_c.specs.declared.handle_value.HandleValue.{HandleValue}
use Rattle.vp8_c.specs.declared.handle_value.HandleValue.TheVariants.{Decoder, Stream, Encoder}
use Rattle.vp8_c.specs.declared.handle.Handle.{Handle}
use Rattle.vp8_c.specs.Arguments.{Size, given_in, result_map, size_of}
use Rattle.vp8_c.specs.Handle.{handle_value_in}
use Rattle.vp8_c.specs.Status.{ending_number, answer_status, file_number}

-- the value is a file
abbrev pub stream_of : HandleValue → Option FileHandle
stream_of (Decoder d) = None
stream_of (Stream a) = Some a.file
stream_of (Encoder e) = None

-- the file of a handle, if it is one
abbrev pub stream_in : Handle → Option FileHandle
stream_in h = option_and_then stream_of (handle_value_in h)

-- a whole file of these bytes under the default limits, before any request
pub record IsFile (bytes : List ℕ) (a : FileHandle) : Type 0 where
  pub pixels : a.stream.limits.pixels ≡ 16777216
  pub packet_bytes : a.stream.limits.packet_bytes ≡ 16777216
  pub packets : a.stream.limits.packets ≡ 1048576
  pub reading : a.stream.reading ≡ reading_of a.stream.limits bytes
  pub ended : a.ended ≡ finish_answer (reading_of a.stream.limits bytes)
  pub history : IsStreamAfter a.stream (with_end (with_piece empty_stream_history bytes) a.stream.reading.fault)
  pub answer : answer_value a.answer ≡ seeking.NoPacket

-- a picture's width, height and I420 pixels
pub record Picture : Type 0 where
  pub width : ℕ
  pub height : ℕ
  pub i420 : List ℕ

-- the picture in an answer, if it shows one
abbrev pub shown_picture : AnswerValue → Option Picture
shown_picture (seeking.Shown w h bytes) = Some (record { width = w; height = h; i420 = bytes })
shown_picture seeking.Hidden = None
shown_picture (seeking.Fault f) = None
shown_picture seeking.NoPacket = None

-- the value of a kept picture in the code
abbrev pub i420_picture : KeptPicture → Picture
i420_picture p = record { width = p.dim.w; height = p.dim.h; i420 = p.i420.now }

-- the picture of the last requested packet
abbrev pub kept_of : HandleValue → Result Picture ℕ
kept_of (Decoder d) = Err CLOSED
kept_of (Stream a) = ok_or (shown_picture (answer_value a.file.answer)) NO_PICTURE
kept_of (Encoder e) = Err CLOSED

-- the size of that picture
abbrev pub kept_size_in : Handle → Result Size ℕ
kept_size_in h = result_map (λ p. size_of p.width p.height) (given_in kept_of h)

-- its I420 pixels
abbrev pub kept_i420_in : Handle → Result (List ℕ) ℕ
kept_i420_in h = result_map (λ p. p.i420) (given_in kept_of h)

-- the information about a file: its head if it is whole and valid, the number of whole packets, and the file's fault
abbrev pub info_with : Option IvfHead → ℕ → ℕ → StreamInfo
info_with None packets fault = record { width = 0; height = 0; rate = 0; scale = 0; packets = packets; fault = fault }
info_with (Some h) packets fault = record {
  width = h.w;
  height = h.h;
  rate = h.rate;
  scale = h.scale;
  packets = packets;
  fault = fault;
}

-- the information about the file of a handle's value
abbrev pub stream_info : FileHandle → StreamInfo
stream_info a = info_with a.stream.reading.head (length a.stream.reading.packets) (ending_number a.ended)

-- the information about the file of a handle, or CLOSED
abbrev pub info_in : Handle → Result StreamInfo ℕ
info_in h = result_map stream_info (ok_or (stream_in h) CLOSED)

-- Packet n was requested: the status is that of its answer, and the answer is kept. Or memory ran out, for a packet
-- that the file has, and nothing changed.
pub record AnswersPacket (n status : ℕ) (old new : FileHandle) : Type 0 where
  pub number : status ≢ MEMORY → status ≡ answer_status (answer_at old.stream.limits old.stream.reading.packets n)
  pub answer : status ≢ MEMORY → answer_value new.answer ≡ answer_at old.stream.limits old.stream.reading.packets n
  pub stream : new.stream ≡ old.stream
  pub ended : new.ended ≡ old.ended
  pub refused : status ≡ MEMORY → new ≡ old
  pub memory : status ≡ MEMORY → n < length old.stream.reading.packets

-- ---- a file that grows

-- the piece is taken: the status is that of the file's fault, if it has one now, and the answer is still kept
pub record TakesPiece (piece : List ℕ) (status : ℕ) (old new : FileHandle) : Type 0 where
  pub number : status ≡ ending_number (ending new.stream.reading.fault)
  pub stream : new.stream ≡ after_piece old.stream piece
  pub history : (h : StreamHistory) → IsStreamAfter old.stream h → IsStreamAfter new.stream (with_piece h piece)
  pub answer : new.answer ≡ old.answer

-- A piece is refused with the fault that the file has, or with ENDED after its end was marked. Or memory ran out. Then
-- nothing changed. Else the piece is taken.
pub record Feeds (piece : List ℕ) (status : ℕ) (old new : FileHandle) : Type 0 where
  pub refused : (fault : FileFault) → stream_refusal old.stream ≡ Some fault
      → (status ≡ file_number fault) × (new ≡ old)
  pub memory : status ≡ MEMORY → new ≡ old
  pub taken : stream_refusal old.stream ≡ None → status ≢ MEMORY → TakesPiece piece status old new

-- the end is marked: the status is that of the file's fault, if it has one, and the answer is still kept
pub record Finishes (status : ℕ) (old new : FileHandle) : Type 0 where
  pub number : status ≡ ending_number (finish_answer old.stream.reading)
  pub ended : new.ended ≡ finish_answer old.stream.reading
  pub stream : new.stream ≡ stream_after_end old.stream
  pub history : (h : StreamHistory) → IsStreamAfter old.stream h
      → IsStreamAfter new.stream (with_end h old.stream.reading.fault)
  pub answer : new.answer ≡ old.answer
