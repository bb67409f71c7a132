-- The file that `vp8 picture` writes. Pinned by the tests `key_packet_is_kept_in_a_file` and
-- `forms_by_the_name`.
use Rattle.std.specs.Prelude.{◌≡◌, ◌&&◌, ℕ, Bool, true, false, not, nat_eq, nat_le, codes, length, List, Option, Some, None}
use Rattle.std.specs.List.{starts_with}
use Rattle.vp_base.specs.declared.limits.Limits.{Limits}
use Rattle.vp_scale.specs.declared.scale.Scale.{Scale}
use Rattle.vp_scale.specs.Scale.{factor_of, scaled_side}
use Rattle.vp_scale.specs.Means.{scaled_i420}
use Rattle.vp_still.specs.declared.found.Found.{Found}
use Rattle.vp_still.specs.declared.still.Coding.{Coding}
use Rattle.vp_still.specs.declared.fault.StillFault.{StillFault}
use Rattle.vp_still.specs.declared.fault.StillFault.TheVariants as still_fault
use Rattle.vp_still.specs.Found.{IsFoundIn}
use Rattle.vp_still.specs.Still.{IsStill, y4m_still}
use Rattle.vp_still.specs.Ppm.{ppm_still}
use Rattle.vp_still.specs.TooLong.{IsTooLongStill}
use Rattle.vp_args.specs.declared.picture_args.PictureArgs.{PictureArgs}
use Rattle.vp_args.specs.declared.picture_args.StillForm.{StillForm}
use Rattle.vp_args.specs.declared.picture_args.StillForm.TheVariants.{WebP, Y4m, I420, Ppm}
use Rattle.vp_commands.specs.Usual.{AreLimitsOf}
use Rattle.vp_commands.specs.declared.picture.MadePicture.{MadePicture}
use Rattle.vp_commands.specs.declared.picture_fault.PictureFault.{PictureFault}
use Rattle.vp_commands.specs.declared.picture_fault.PictureFault.TheVariants.{Find, TooLong, Device, ReadTurns, Memory}

-- the file of a picture, made smaller: a WebP file by its packet or by the encoder, or one without compression
abbrev pub IsPictureFile : StillForm → Scale → ℕ → Found → List ℕ → Option Coding → Type 0
IsPictureFile WebP scale qi f bytes None = ⊥
IsPictureFile WebP scale qi f bytes (Some coding) = IsStill scale qi f.packet f.dim.w f.dim.h f.pixels coding bytes
IsPictureFile Y4m scale qi f bytes coding = (coding ≡ None) × (bytes ≡ y4m_still scale f.dim.w f.dim.h f.pixels)
IsPictureFile I420 scale qi f bytes coding =
    (coding ≡ None) × (bytes ≡ scaled_i420 (factor_of scale) f.dim.w f.dim.h f.pixels)
IsPictureFile Ppm scale qi f bytes coding = (coding ≡ None) × (bytes ≡ ppm_still scale f.dim.w f.dim.h f.pixels)

-- the picture of this file that the arguments want, in the form that they want
pub record IsPictureOf (p : PictureArgs) (file : List ℕ) (m : MadePicture) : Type 0 where
  pub limits : Limits
  pub usual : AreLimitsOf p.limits limits
  pub found : Found
  pub found_is : IsFoundIn limits file p.packet found
  pub number_is : m.number ≡ found.number
  pub width_is : m.dim.w ≡ scaled_side (factor_of p.scale) found.dim.w
  pub height_is : m.dim.h ≡ scaled_side (factor_of p.scale) found.dim.h
  pub alpha_is : m.has_alpha ≡ found.has_alpha
  pub made : IsPictureFile p.form p.scale p.qi found m.bytes m.coding

-- why a picture that was found is not made into a file: it is encoded, and its key frame is too long; or memory lacks
abbrev pub IsUnmade : PictureArgs → Found → PictureFault → Type 0
IsUnmade p f TooLong = (p.form ≡ WebP) × IsTooLongStill p.scale p.qi f.dim.w f.dim.h f.pixels
IsUnmade p f fault = fault ≡ Memory

-- the picture of this file that the arguments want is encoded, and its key frame is too long
pub record IsTooLongOf (p : PictureArgs) (file : List ℕ) : Type 0 where
  pub limits : Limits
  pub usual : AreLimitsOf p.limits limits
  pub found : Found
  pub found_is : IsFoundIn limits file p.packet found
  pub long : IsUnmade p found TooLong

-- a file of 32 bytes or more begins as neither an IVF nor a WebP file
unfoldable pub is_foreign : List ℕ → Bool
is_foreign file =
    nat_le 32 (length file) && (not (starts_with nat_eq file (codes "DKIF"))
    && not (starts_with nat_eq file (codes "RIFF")))

-- the fault tells something of the input's bytes
abbrev pub is_told : PictureFault → Bool
is_told (Find e) = true
is_told TooLong = true
is_told Device = false
is_told ReadTurns = false
is_told Memory = false

-- the fault of a picture whose WebP file is not made
abbrev pub fault_of_still : StillFault → PictureFault
fault_of_still still_fault.TooLong = TooLong
fault_of_still still_fault.Memory = Memory
