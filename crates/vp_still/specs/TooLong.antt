-- A picture that is encoded, and whose key frame is too long. Not pinned by a test: the picture would need millions of
-- pixels.
use Rattle.std.specs.Prelude.{◌≡◌, ◌⊎◌, ℕ, List, Some}
use Rattle.vp_base.specs.declared.limits.Dim.{Dim}
use Rattle.vp_base.specs.Image.{Image, i420}
use Rattle.vp_scale.specs.declared.scale.Scale.{Scale}
use Rattle.vp_scale.specs.Scale.{factor_of, scaled_side}
use Rattle.vp_scale.specs.Means.{scaled_i420}
use Rattle.vp_webp.specs.Text.{webp_refusal}
use Rattle.vp_webp.specs.declared.fault.WebPWriteFault.TheVariants.{TooLong}
use Rattle.vp_encode.specs.Encoded.{initial_encoder}
use Rattle.vp_encode.specs.TooLong.{IsTooLong}
use Rattle.vp_still.specs.Still.{still_settings, IsKeyFrameFor}

-- the key frame that is chosen for the smaller picture has a partition that is too long for the packet format
pub record HasLongPart (scale : Scale) (qi w h : ℕ) (pixels : List ℕ) : Type 0 where
  pub dim : Dim
  pub width : dim.w ≡ scaled_side (factor_of scale) w
  pub height : dim.h ≡ scaled_side (factor_of scale) h
  pub source : Image
  pub source_width : source.width ≡ dim.w
  pub source_height : source.height ≡ dim.h
  pub shown : i420 source ≡ scaled_i420 (factor_of scale) w h pixels
  pub long : IsTooLong (initial_encoder dim (still_settings qi)) source

-- its packet is too long for a WebP file
pub record HasLongPacket (scale : Scale) (qi w h : ℕ) (pixels : List ℕ) : Type 0 where
  pub packet : List ℕ
  pub error : ℕ
  pub coded : IsKeyFrameFor scale qi w h pixels packet error
  pub long : webp_refusal packet ≡ Some TooLong

-- either
abbrev pub IsTooLongStill : Scale → ℕ → ℕ → ℕ → List ℕ → Type 0
IsTooLongStill scale qi w h pixels = HasLongPart scale qi w h pixels ⊎ HasLongPacket scale qi w h pixels
