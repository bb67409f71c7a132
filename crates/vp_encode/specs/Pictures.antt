-- The pictures at the beginning of the body of a YUV4MPEG2 file, and the bytes after them.
use Rattle.std.specs.Prelude.{◌≡◌, ℕ, List, [], ◌∷◌, Some, Ok}
use Rattle.vp_base.specs.Image.{Image, i420}
use Rattle.vp_y4m.specs.Pixels.{IsZeroOutside}
use Rattle.vp_y4m.specs.Pictures.{next_of}

-- a picture of w by h pixels; pixels that aren't shown are 0
pub record IsPicture (w h : ℕ) (p : Image) : Type 0 where
  pub width : p.width ≡ w
  pub height : p.height ≡ h
  pub outside : IsZeroOutside p

-- the bytes begin with these pictures, followed by `rest`
abbrev pub BeginWith : ℕ → ℕ → List ℕ → List Image → List ℕ → Type 0
BeginWith w h bytes [] rest = bytes ≡ rest
BeginWith w h bytes (p ∷ ps) rest =
    (more : List ℕ) × IsPicture w h p × (next_of w h bytes ≡ Ok (Some (i420 p, more))) × BeginWith w h more ps rest
