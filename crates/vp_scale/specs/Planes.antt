-- The planes of a picture that is given as I420: Y, then U and V of half its width and height, rounded up (RFC 6386,
-- chapter 2). Pinned by the test `planes_are_scaled_alike`.
use Rattle.std.specs.Prelude.{ℕ, ◌+◌, ◌*◌, ◌/◌, List, take, drop}
use Rattle.vp_base.specs.Raster.{Raster}

-- half of a side, rounded up
abbrev pub half : ℕ → ℕ
half side = (side + 1) / 2

-- the number of bytes of a picture
abbrev pub i420_size : ℕ → ℕ → ℕ
i420_size w h = w * h + 2 * (half w * half h)

-- a plane whose pixels begin at byte i
abbrev pub plane_from : ℕ → ℕ → ℕ → List ℕ → Raster
plane_from i w h bytes = record { width = w; height = h; pixels = take (h * w) (drop i bytes) }

abbrev pub luma_in : ℕ → ℕ → List ℕ → Raster
luma_in w h bytes = plane_from 0 w h bytes

abbrev pub u_in : ℕ → ℕ → List ℕ → Raster
u_in w h bytes = plane_from (h * w) (half w) (half h) bytes

abbrev pub v_in : ℕ → ℕ → List ℕ → Raster
v_in w h bytes = plane_from (h * w + half h * half w) (half w) (half h) bytes
