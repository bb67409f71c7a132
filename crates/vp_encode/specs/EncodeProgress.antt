-- Private to the crate: the progress of encoding a file, picture by picture.
use Rattle.std.specs.Prelude.{◌≡◌, ◌≤◌, ◌<◌, ◌+◌, ℕ, List, [], ◌∷◌, ◌++◌, Option, Result, Ok, Err, length, map}
use Rattle.std.specs.List.{All}
use Rattle.vp_base.specs.declared.limits.Limits.{Limits}
use Rattle.vp_base.specs.Image.{Image}
use Rattle.vp_y4m.specs.Header.{Head}
use Rattle.vp_y4m.specs.Pictures.{file_head}
use Rattle.vp_encode.specs.declared.settings.Settings.{Settings}
use Rattle.vp_encode.specs.declared.report.EncodeAllFault.{EncodeAllFault}
use Rattle.vp_encode.specs.declared.report.EncodeAllFault.TheVariants as fault
use Rattle.vp_encode.specs.Encoder.{EncoderState, AreAllowed}
use Rattle.vp_encode.specs.Encoded.{EncodedFrame, IsEncoded, AreEncoded, initial_encoder, error_of, errors_of}
use Rattle.vp_encode.specs.Encoded.{lengths_of}
use Rattle.vp_encode.specs.Pictures.{BeginWith}
use Rattle.vp_encode.specs.File.{Work, IsDone, HasAllPictures, IsEndedBehind, AreFramesOf, source_of, packet_of}
use Rattle.vp_encode.specs.TooLong.{IsTooLong}

-- the limits, the encoder, its packets so far, the sum of their lengths, and that of their squared errors
pub record EncodeProgress : Type 0 where
  pub limits : Limits
  pub encoder : EncoderState
  pub packets : List (List ℕ)
  pub bytes : ℕ
  pub error : ℕ

-- before the first picture
abbrev pub start : Limits → EncoderState → EncodeProgress
start limits encoder = record { limits = limits; encoder = encoder; packets = []; bytes = 0; error = 0 }

-- ---- one picture; a refused picture adds no packet

-- there was room for one more frame, and this one is added
pub record IsAdded (old : EncodeProgress) (f : EncodedFrame) (new : EncodeProgress) : Type 0 where
  pub room : length old.packets < old.limits.packets
  pub small : length f.packet ≤ old.limits.packet_bytes
  pub encoded : IsEncoded old.encoder f new.encoder
  pub limits : new.limits ≡ old.limits
  pub packets : new.packets ≡ old.packets ++ f.packet ∷ []
  pub bytes : new.bytes ≡ old.bytes + length f.packet
  pub error : new.error ≡ old.error + error_of f

-- picture p is refused with this fault: too many pictures, a partition too long, or a packet too large
abbrev pub IsPictureRefused : EncodeProgress → Image → EncodeAllFault → Type 0
IsPictureRefused r p fault.Magic = ⊥
IsPictureRefused r p fault.Size = ⊥
IsPictureRefused r p fault.Colour = ⊥
IsPictureRefused r p fault.Interlaced = ⊥
IsPictureRefused r p fault.Torn = ⊥
IsPictureRefused r p fault.Settings = ⊥
IsPictureRefused r p fault.TooMany = length r.packets ≡ r.limits.packets
IsPictureRefused r p fault.TooLong = (length r.packets < r.limits.packets) × IsTooLong r.encoder p
IsPictureRefused r p fault.PacketTooLarge = (f : EncodedFrame) × (next : EncoderState) × (f.source ≡ p)
    × (length r.packets < r.limits.packets) × IsEncoded r.encoder f next × (r.limits.packet_bytes < length f.packet)
IsPictureRefused r p fault.Device = ⊥
IsPictureRefused r p fault.Memory = Unit {0}

-- picture p is encoded, or refused
abbrev pub TakesPicture : EncodeProgress → Image → Result (Unit {0}) EncodeAllFault → EncodeProgress → Type 0
TakesPicture old p (Ok done) new = (f : EncodedFrame) × (f.source ≡ p) × IsAdded old f new
TakesPicture old p (Err fault) new = IsPictureRefused old p fault × (new.packets ≡ old.packets)

-- ---- all of them

-- front is the header line of a file with this head
abbrev pub IsHeadLine : ℕ → List ℕ → Head → Type 0
IsHeadLine pixels front head = (rest : List ℕ) → file_head pixels (front ++ rest) ≡ Ok (head, rest)

-- front is the header line of a file with this head; the work begins with its size and allowed settings
pub record IsBegun (front : List ℕ) (head : Head) (begun : EncodeProgress) : Type 0 where
  pub line : IsHeadLine begun.limits.pixels front head
  pub first : begun ≡ start begun.limits (initial_encoder begun.encoder.dim begun.encoder.settings)
  pub allowed : AreAllowed begun.encoder.settings
  pub width : begun.encoder.dim.w ≡ head.w
  pub height : begun.encoder.dim.h ≡ head.h

-- these bytes after the head are read, and these frames of their pictures are added
pub record IsAt (head : Head) (begun now : EncodeProgress) (bytes : List ℕ) (frames : List EncodedFrame) : Type 0 where
  pub pictures : (rest : List ℕ) → BeginWith head.w head.h (bytes ++ rest) (map source_of frames) rest
  pub encoded : AreEncoded begun.encoder frames now.encoder
  pub dim : now.encoder.dim ≡ begun.encoder.dim
  pub limits : now.limits ≡ begun.limits
  pub packets : now.packets ≡ map packet_of frames
  pub bytes_are : now.bytes ≡ lengths_of frames
  pub error : now.error ≡ errors_of frames
  pub few : length frames ≤ begun.limits.packets
  pub small : All (λ f. length f.packet ≤ begun.limits.packet_bytes) frames

-- exactly the frames of the work are added
pub record HasWorkFrames (w : Work) (r : EncodeProgress) : Type 0 where
  pub packets : r.packets ≡ map packet_of w.frames
  pub bytes : r.bytes ≡ lengths_of w.frames
  pub error : r.error ≡ errors_of w.frames

-- all pictures of a file with this head are encoded into these frames, or encoding ended after them before anything
-- was written
abbrev pub EndsEncode : Limits → Settings → Result (Unit {0}) EncodeAllFault → Head → List ℕ → List EncodedFrame
    → EncodeProgress → Type 0
EndsEncode limits settings (Ok done) head file frames r = (w : Work) × IsDone limits settings file w × HasAllPictures w
    × (w.head ≡ head) × HasWorkFrames w r × (w.frames ≡ frames)
EndsEncode limits settings (Err fault) head file frames r = AreFramesOf limits settings file frames
    × ((written : Option (List ℕ)) → IsEndedBehind (length frames) limits settings fault file written written)
