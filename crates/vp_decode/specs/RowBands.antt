-- Private to the crate: pictures of one size, and operations that read and write only rows above, or only rows from, a
-- given row of macroblocks.
use Rattle.std.specs.Prelude.{◌≡◌, ℕ, ◌*◌}
use Rattle.vp_base.specs.Image.{Image, IsAligned, AreWhole}
use Rattle.vp_base.specs.Rows.{AreSameAbove, AreSameFrom}

-- a picture of this size in pixels, with a byte for each pixel of its planes
pub record IsShaped (width height : ℕ) (p : Image) : Type 0 where
  pub width_is : p.width ≡ width
  pub height_is : p.height ≡ height
  pub aligned : IsAligned p
  pub whole : AreWhole p

-- f reads and writes only above row k of macroblocks
pub record IsAbove (width height k : ℕ) (f : Image → Image) : Type 0 where
  pub shaped : (p : Image) → IsShaped width height p → IsShaped width height (f p)
  pub keeps : (p : Image) → IsShaped width height p → AreSameFrom (16 * k) (8 * k) (f p) p
  pub reads : (p q : Image) → IsShaped width height p → IsShaped width height q → AreSameAbove (16 * k) (8 * k) p q
      → AreSameAbove (16 * k) (8 * k) (f p) (f q)

-- f reads and writes only from row k of macroblocks on
pub record IsBelow (width height k : ℕ) (f : Image → Image) : Type 0 where
  pub shaped : (p : Image) → IsShaped width height p → IsShaped width height (f p)
  pub keeps : (p : Image) → IsShaped width height p → AreSameAbove (16 * k) (8 * k) (f p) p
  pub reads : (p q : Image) → IsShaped width height p → IsShaped width height q → AreSameFrom (16 * k) (8 * k) p q
      → AreSameFrom (16 * k) (8 * k) (f p) (f q)
