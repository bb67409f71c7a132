-- Private to the crate: the factors of a segment, each made ready for 16-bit products.
use Rattle.vp_quant.specs.Short.{IsShortFactor}
use Rattle.vp_recon.specs.declared.segment_factors.SegmentFactors.TheInside.{Inside}

-- each is made ready: that of Y2's AC levels for products from -8191 to 8191, the others for -2200 to 2200
pub record IsReady (s : Inside) : Type 0 where
  pub y2_ac : IsShortFactor s.y2_ac s.raw.y2_ac 8191
  pub y_dc : IsShortFactor s.y_dc s.raw.y_dc 2200
  pub y_ac : IsShortFactor s.y_ac s.raw.y_ac 2200
  pub uv_dc : IsShortFactor s.uv_dc s.raw.uv_dc 2200
  pub uv_ac : IsShortFactor s.uv_ac s.raw.uv_ac 2200
