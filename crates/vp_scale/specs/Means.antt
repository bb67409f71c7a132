-- A smaller picture: each pixel is the mean of a square of pixels of its plane. Pinned by the tests
-- `planes_are_scaled_alike` and `edges_are_repeated`.
use Rattle.std.specs.Prelude.{ℕ, ◌+◌, ◌-◌, ◌*◌, ◌/◌, ◌++◌, min, sum, List, length}
use Rattle.vp_base.specs.Raster.{Raster, pixel}
use Rattle.vp_base.specs.Block.{numbers}
use Rattle.vp_scale.specs.Scale.{scaled_side}
use Rattle.vp_scale.specs.Planes.{luma_in, u_in, v_in}

-- the pixel at column x of row y; beyond an edge, the nearest pixel of the plane
abbrev pub nearest : Raster → ℕ → ℕ → ℕ
nearest p x y = pixel p (min x (p.width - 1)) (min y (p.height - 1))

-- the k by k pixels whose first one is at column x of row y
abbrev pub square : ℕ → Raster → ℕ → ℕ → List ℕ
square k p x y = numbers k k (λ c r. nearest p (x + c) (y + r))

-- the mean of some numbers, rounded to the nearest number, a half up
abbrev pub rounded_mean : List ℕ → ℕ
rounded_mean xs = (sum xs + length xs / 2) / length xs

-- the pixel at column x of row y of the smaller plane
unfoldable pub mean_at : ℕ → Raster → ℕ → ℕ → ℕ
mean_at k p x y = rounded_mean (square k p (x * k) (y * k))

-- the pixels of the smaller plane, in raster order
abbrev pub means : ℕ → Raster → List ℕ
means k p = numbers (scaled_side k p.width) (scaled_side k p.height) (mean_at k p)

-- the smaller picture as I420, given the picture of w by h pixels as I420
unfoldable pub scaled_i420 : ℕ → ℕ → ℕ → List ℕ → List ℕ
scaled_i420 k w h bytes = means k (luma_in w h bytes) ++ means k (u_in w h bytes) ++ means k (v_in w h bytes)
