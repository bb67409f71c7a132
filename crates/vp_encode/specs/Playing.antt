-- The statement of the law `encoded_files_play_back`: an encoded file decodes to the reconstructions, one for each
-- picture.
use Rattle.std.specs.Prelude.{◌≡◌, ◌≤◌, ◌*◌, ℕ, List, [], ◌∷◌, length, map, Option, None, Ok}
use Rattle.std.specs.List.{All}
use Rattle.vp_base.specs.declared.limits.Limits.{Limits}
use Rattle.vp_ivf.specs.declared.packet.Packet.{Packet}
use Rattle.vp_ivf.specs.Ivf.{Contents, read_file}
use Rattle.vp_ivf.specs.Reader.{finish_answer}
use Rattle.vp_decode.specs.Step.{DecoderState, Answer, Shown, step}
use Rattle.vp_encode.specs.declared.settings.Settings.{Settings}
use Rattle.vp_encode.specs.Encoded.{EncodedFrame}
use Rattle.vp_encode.specs.File.{Work, IsDone, encoded_file}

-- the answers for packets, one after another, starting from a state (RFC 6386, chapter 5)
abbrev pub answers_from_state : Limits → Option DecoderState → List (List ℕ) → List Answer
answers_from_state limits state [] = []
answers_from_state limits state (p ∷ ps) = (step limits state p).1
    ∷ answers_from_state limits (step limits state p).0 ps

-- the contents of the IVF file that was written
abbrev pub reread_output : Limits → Work → Contents
reread_output limits w = read_file limits.packet_bytes limits.packets (encoded_file w)

-- the limits allow its size, its packets and their number
pub record FitsLimits (limits : Limits) (w : Work) : Type 0 where
  pub pixels : w.head.w * w.head.h ≤ limits.pixels
  pub packets : length w.frames ≤ limits.packets
  pub packet_bytes : All (λ f. length f.packet ≤ limits.packet_bytes) w.frames

-- the bytes of a packet
abbrev pub bytes_of : Packet → List ℕ
bytes_of p = p.bytes

-- the answer that shows the reconstruction
abbrev pub shown : EncodedFrame → Answer
shown f = Shown f.recon

-- the file ends without a fault, and its packets show the reconstructions, one for each picture, in order
pub record PlaysBack (limits : Limits) (w : Work) : Type 0 where
  pub ends : finish_answer (reread_output limits w) ≡ Ok tt
  pub pictures : answers_from_state limits None (map bytes_of (reread_output limits w).packets) ≡ map shown w.frames

-- every encoded file plays back, under all limits that allow it
abbrev pub EncodedFilesPlayBack : Type 0
EncodedFilesPlayBack = (limits others : Limits) (settings : Settings) (file : List ℕ) (w : Work)
    → IsDone limits settings file w → FitsLimits others w → PlaysBack others w

-- the limits that it was encoded under allow it
abbrev pub EncodedFilesFit : Type 0
EncodedFilesFit = (limits : Limits) (settings : Settings) (file : List ℕ) (w : Work) → IsDone limits settings file w
    → FitsLimits limits w
