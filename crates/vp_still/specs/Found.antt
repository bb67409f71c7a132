-- The packet of a file whose picture is wanted, and that picture. Pinned by the tests `pictures_by_their_numbers` and
-- `alpha_is_told`.
use Rattle.std.specs.Prelude.{◌≡◌, ◌<◌, ℕ, false, List, Option, Some, None, Ok, MatchBool, codes, nat_eq, slice_get}
use Rattle.std.specs.List.{starts_with}
use Rattle.vp_base.specs.declared.limits.Limits.{Limits}
use Rattle.vp_ivf.specs.declared.packet.Packet.{Packet}
use Rattle.vp_webp.specs.WebP.{StillImage, still_image}
use Rattle.vp_decode.specs.Step.{step}
use Rattle.vp_stream.specs.Answers.{reading_of}
use Rattle.vp_stream.specs.Seeking.{AnswerValue, Shown, Hidden, Fault, NoPacket, answer_at, answer_values}
use Rattle.vp_still.specs.declared.found.Found.{Found}

-- an answer that shows no picture
abbrev pub IsUnshown : AnswerValue → Type 0
IsUnshown (Shown w h pixels) = ⊥
IsUnshown Hidden = Unit {0}
IsUnshown (Fault f) = Unit {0}
IsUnshown NoPacket = Unit {0}

-- the packet is the one that is asked for, or the first that shows a picture
abbrev pub IsWanted : Limits → List Packet → Option ℕ → ℕ → Type 0
IsWanted limits packets (Some wanted) number = number ≡ wanted
IsWanted limits packets None number = (k : ℕ) → k < number → IsUnshown (answer_at limits packets k)

-- packet `number` of these shows this picture; there is no alpha
pub record IsShownAt (limits : Limits) (packets : List Packet) (f : Found) : Type 0 where
  pub own : Packet
  pub there : slice_get packets f.number ≡ Some own
  pub packet_is : f.packet ≡ own.bytes
  pub picture : answer_at limits packets f.number ≡ Shown f.dim.w f.dim.h f.pixels
  pub alpha : f.has_alpha ≡ false

-- the packet of an IVF file that is wanted, and its picture
pub record IsFoundInIvf (limits : Limits) (file : List ℕ) (wanted : Option ℕ) (f : Found) : Type 0 where
  pub shown : IsShownAt limits (reading_of limits file).packets f
  pub wanted_is : IsWanted limits (reading_of limits file).packets wanted f.number

-- the packet of a WebP file, its picture, and whether the file has alpha
pub record IsFoundInWebP (limits : Limits) (file : List ℕ) (f : Found) : Type 0 where
  pub image : StillImage
  pub read : still_image file ≡ Ok image
  pub first : f.number ≡ 0
  pub packet_is : f.packet ≡ image.packet
  pub picture : answer_values (step limits None image.packet).1 ≡ Shown f.dim.w f.dim.h f.pixels
  pub alpha : f.has_alpha ≡ image.has_alpha

-- the packet of a WebP file has the number 0
abbrev pub IsFirst : Option ℕ → Type 0
IsFirst None = Unit {0}
IsFirst (Some wanted) = wanted ≡ 0

-- the packet of a file that is wanted, and its picture: a WebP file begins with `RIFF`
abbrev pub IsFoundIn : Limits → List ℕ → Option ℕ → Found → Type 0
IsFoundIn limits file wanted f =
    MatchBool (starts_with nat_eq file (codes "RIFF")) (IsFirst wanted × IsFoundInWebP limits file f)
    (IsFoundInIvf limits file wanted f)
