-- Laws of WebP files that are written for a picture: each is read as its packet, which shows the picture, or one at the
-- distance that is returned.
use Rattle.std.specs.Prelude.{◌≡◌, ◌≤◌, ◌*◌, ℕ, false, List, Option, Some, None, Ok, slice_get}
use Rattle.vp_base.specs.declared.limits.Limits.{Limits}
use Rattle.vp_ivf.specs.declared.packet.Packet.{Packet}
use Rattle.vp_scale.specs.declared.scale.Scale.{Scale}
use Rattle.vp_scale.specs.declared.scale.Scale.TheVariants.{Full}
use Rattle.vp_scale.specs.Scale.{factor_of, scaled_side}
use Rattle.vp_scale.specs.Means.{scaled_i420}
use Rattle.vp_webp.specs.WebP.{still_image}
use Rattle.vp_search.specs.Differences.{sum_of_squares}
use Rattle.vp_decode.specs.Step.{step}
use Rattle.vp_stream.specs.Seeking.{Shown, answer_at, answer_values}
use Rattle.vp_still.specs.declared.found.Found.{Found}
use Rattle.vp_still.specs.declared.still.Coding.{Coding}
use Rattle.vp_still.specs.declared.still.Coding.TheVariants.{Kept, Encoded}
use Rattle.vp_still.specs.Found.{IsFoundIn}
use Rattle.vp_still.specs.Still.{kept_file, IsEncodedStill, IsStill}

-- a file is read as this packet, without alpha, and the packet shows this picture
pub record IsWebPOf (limits : Limits) (file packet : List ℕ) (w h : ℕ) (pixels : List ℕ) : Type 0 where
  pub read : still_image file ≡ Ok (record { packet = packet; has_alpha = false; canvas = None })
  pub picture : answer_values (step limits None packet).1 ≡ Shown w h pixels

-- the file of a packet that is kept shows the picture that was found
abbrev pub KeptFilesShowThePicture : Type 0
KeptFilesShowThePicture = (limits : Limits) (file : List ℕ) (wanted : Option ℕ) (found : Found) (own : List ℕ)
    → IsFoundIn limits file wanted found → kept_file Full found.packet ≡ Some own
    → IsWebPOf limits own found.packet found.dim.w found.dim.h found.pixels

-- a file shows a picture at this distance from the picture of w by h pixels, made smaller
pub record IsWebPNear (limits : Limits) (scale : Scale) (w h : ℕ) (pixels file : List ℕ) (error : ℕ) : Type 0 where
  pub packet : List ℕ
  pub recon : List ℕ
  pub shows : IsWebPOf limits file packet (scaled_side (factor_of scale) w) (scaled_side (factor_of scale) h) recon
  pub distance : error ≡ sum_of_squares (scaled_i420 (factor_of scale) w h pixels) recon

-- the file of a picture that is encoded shows one at the distance that is returned
abbrev pub EncodedFilesShowTheirDistance : Type 0
EncodedFilesShowTheirDistance = (limits : Limits) (scale : Scale) (qi w h : ℕ) (pixels file : List ℕ) (error : ℕ)
    → IsEncodedStill scale qi w h pixels (Encoded error) file
    → scaled_side (factor_of scale) w * scaled_side (factor_of scale) h ≤ limits.pixels
    → IsWebPNear limits scale w h pixels file error

-- what the file of a picture shows: the picture, by its own packet, or one at the distance that is returned
abbrev pub ShowsStill : Limits → Scale → List ℕ → ℕ → ℕ → List ℕ → Coding → List ℕ → Type 0
ShowsStill limits scale packet w h pixels Kept file = IsWebPOf limits file packet w h pixels
ShowsStill limits scale packet w h pixels (Encoded error) file = IsWebPNear limits scale w h pixels file error

-- this holds of the file for every packet of a stream, and the picture that the stream shows for it
abbrev pub StillsShowTheirPictures : Type 0
StillsShowTheirPictures = (limits : Limits) (packets : List Packet) (n : ℕ) (own : Packet) (scale : Scale) (qi w h : ℕ)
    (pixels file : List ℕ) (coding : Coding)
    → slice_get packets n ≡ Some own → answer_at limits packets n ≡ Shown w h pixels
    → IsStill scale qi own.bytes w h pixels coding file
    → scaled_side (factor_of scale) w * scaled_side (factor_of scale) h ≤ limits.pixels
    → ShowsStill limits scale own.bytes w h pixels coding file
