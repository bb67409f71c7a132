-- Private to the crate: a picture that is made smaller, and the encoder for its key frame.
use Rattle.std.specs.Prelude.{◌≡◌, ℕ, List}
use Rattle.vp_base.specs.declared.limits.Dim.{Dim}
use Rattle.vp_base.specs.Image.{Image, i420}
use Rattle.vp_scale.specs.declared.scale.Scale.{Scale}
use Rattle.vp_scale.specs.Scale.{factor_of, scaled_side}
use Rattle.vp_scale.specs.Means.{scaled_i420}
use Rattle.vp_encode.specs.Encoder.{EncoderState}
use Rattle.vp_encode.specs.Encoded.{initial_encoder}
use Rattle.vp_still.specs.Still.{still_settings}

-- the source shows the smaller picture of w by h pixels, and the encoder of its size has encoded no frame yet
pub record IsSmaller (scale : Scale) (qi w h : ℕ) (pixels : List ℕ) (source : Image) (e : EncoderState) : Type 0 where
  pub dim : Dim
  pub width : dim.w ≡ scaled_side (factor_of scale) w
  pub height : dim.h ≡ scaled_side (factor_of scale) h
  pub shown : i420 source ≡ scaled_i420 (factor_of scale) w h pixels
  pub first : e ≡ initial_encoder dim (still_settings qi)
