-- Private to the crate: padding the source to whole macroblocks.
use Rattle.std.specs.Prelude.{◌≡◌, ◌<◌, ◌≤◌, ℕ, ◌+◌, ◌-◌, min, take, replicate}
use Rattle.vp_base.specs.Raster.{Raster, pixel, row_of, with_run}
use Rattle.vp_base.specs.Block.{IsWhole}

-- the plane p has width by height shown pixels, and at most 16 more columns and rows; q is a plane of its size
pub record ExtendsPlane (width height : ℕ) (p q : Raster) : Type 0 where
  pub some_columns : 0 < width
  pub columns : width ≤ p.width
  pub few : p.width ≤ width + 16
  pub some_rows : 0 < height
  pub rows : height ≤ p.height
  pub width_is : q.width ≡ p.width
  pub height_is : q.height ≡ p.height
  pub whole : IsWhole q

-- q with row y padded from p
abbrev pub row_continued : ℕ → ℕ → Raster → ℕ → Raster → Raster
row_continued width height p y q =
    with_run (with_run q 0 y (take width (row_of p (min y (height - 1))))) width y
    (replicate (p.width - width) (pixel p (width - 1) (min y (height - 1))))
