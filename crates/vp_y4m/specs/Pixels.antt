-- The pixels of a picture that is read: shown pixels are the bytes of the file, and all others are 0.
use Rattle.std.specs.Prelude.{ℕ, ◌<◌, ◌≤◌, ◌≡◌, ◌⊎◌, ◌+◌, ◌/◌, ◌==◌, List, Option, if◌then◌else◌}
use Rattle.std.specs.Io.KnownBytes.{Consumes}
use Rattle.vp_base.specs.Raster.{Raster, pixel}
use Rattle.vp_base.specs.Block.{numbers, IsWhole}
use Rattle.vp_base.specs.Image.{Image, plane_of, with_plane, i420}

-- the pixel at column x of row y is outside the first w columns of the first h rows
abbrev pub IsBeyond : ℕ → ℕ → ℕ → ℕ → Type 0
IsBeyond w h x y = (w ≤ x) ⊎ (h ≤ y)

-- the first w columns of the first h rows of plane k are the consumed bytes, in raster order, and nothing else changed
pub record ReadsRows (w h k : ℕ) (old new : Image) (before after : Option (List ℕ)) : Type 0 where
  pub consumed : Consumes before after (numbers w h (pixel (plane_of new k)))
  pub width : (plane_of new k).width ≡ (plane_of old k).width
  pub height : (plane_of new k).height ≡ (plane_of old k).height
  pub whole : IsWhole (plane_of new k)
  pub beyond : (x y : ℕ) → x < (plane_of old k).width → y < (plane_of old k).height → IsBeyond w h x y
      → pixel (plane_of new k) x y ≡ pixel (plane_of old k) x y
  pub kept : new ≡ with_plane old k (plane_of new k)

-- the shown part of a picture's side in plane k
abbrev pub shown_side : ℕ → ℕ → ℕ
shown_side k side = if k == 0 then side else (side + 1) / 2

-- all pixels outside are 0
abbrev pub IsZeroBeyond : ℕ → ℕ → Raster → Type 0
IsZeroBeyond w h p = (x y : ℕ) → x < p.width → y < p.height → IsBeyond w h x y → pixel p x y ≡ 0

-- all pixels of a picture that aren't shown are 0
pub record IsZeroOutside (p : Image) : Type 0 where
  pub luma : IsZeroBeyond p.width p.height p.luma
  pub u : IsZeroBeyond ((p.width + 1) / 2) ((p.height + 1) / 2) p.u
  pub v : IsZeroBeyond ((p.width + 1) / 2) ((p.height + 1) / 2) p.v

-- a picture's shown pixels are the consumed bytes, all others are 0, and its size is unchanged
pub record ReadsPicture (old new : Image) (before after : Option (List ℕ)) : Type 0 where
  pub consumed : Consumes before after (i420 new)
  pub width : new.width ≡ old.width
  pub height : new.height ≡ old.height
  pub outside : IsZeroOutside new
