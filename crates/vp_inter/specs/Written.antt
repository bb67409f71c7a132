-- Private to the crate: rows of a block that are written to bytes, as those of a plane, of which rows are a stride
-- apart.
use Rattle.std.specs.Prelude.{◌≡◌, ◌+◌, ◌*◌, ◌<◌, ◌≤◌, ℕ, List, length}
use Rattle.vp_base.specs.Raster.{Raster, pixel_index}
use Rattle.vp_base.specs.Block.{IsWhole, written}

-- the block of n columns and h rows at column x of row y of p has its first pixel at index `at` of these bytes, whose
-- rows are `stride` apart
pub record BlockLiesAt (p : Raster) (x y n h : ℕ) (bytes : List ℕ) (at stride : ℕ) : Type 0 where
  pub whole : IsWhole p
  pub same : p.pixels ≡ bytes
  pub wide : p.width ≡ stride
  pub start : at ≡ pixel_index p x y
  pub columns : x + n ≤ p.width
  pub rows : y + h ≤ p.height

-- h rows of n, from index `at` on and `stride` apart, are within the bytes
abbrev pub HasRoomForBlock : ℕ → ℕ → List ℕ → ℕ → ℕ → Type 0
HasRoomForBlock n h bytes at stride = (r : ℕ) → r < h → at + r * stride + n ≤ length bytes

-- bytes of which h rows of n, from index `at` on and `stride` apart, are replaced by the pixels f, and no others
pub record IsBlockWritten (n h : ℕ) (old new : List ℕ) (at stride : ℕ) (f : ℕ → ℕ → ℕ) : Type 0 where
  pub value : (p : Raster) (x y : ℕ) → BlockLiesAt p x y n h old at stride → new ≡ written p x y n h f
  pub len : length new ≡ length old
