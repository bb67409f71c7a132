-- The layout of a picture that is lent to C. No contract says what lies at an address once the call has returned.
use Rattle.std.specs.Prelude.{◌≡◌, ℕ}
use Rattle.vp_base.specs.Image.{Image}
use Rattle.vp8_c.specs.declared.lent.LentPicture.{LentPicture}
use Rattle.vp8_c.specs.declared.status.TheConstants.{OK}
use Rattle.vp8_c.specs.Planes.{Planes, planes_of}

-- the size of a picture in pixels, and the strides of its planes, which hold whole macroblocks
pub record IsLayoutOf (p : Image) (lent : LentPicture) : Type 0 where
  pub width_is : lent.width ≡ p.width
  pub height_is : lent.height ≡ p.height
  pub y : lent.y.stride ≡ p.luma.width
  pub u : lent.u.stride ≡ p.u.width
  pub v : lent.v.stride ≡ p.v.width

-- the planes of a picture, as a caller reads them by the strides that are lent
abbrev pub lent_planes : Image → LentPicture → Planes
lent_planes p lent = planes_of p.luma.pixels lent.y.stride p.u.pixels lent.u.stride p.v.pixels lent.v.stride

-- the picture is lent
abbrev pub Lends : Image → ℕ → LentPicture → LentPicture → Type 0
Lends p status before after = (status ≡ OK) × IsLayoutOf p after
