-- How much smaller a picture is made, and the size that it then has. Pinned by the test `sizes_are_rounded_up`.
use Rattle.std.specs.Prelude.{◌≡◌, ◌⊎◌, ◌+◌, ◌-◌, ◌/◌, ℕ}
use Rattle.vp_scale.specs.declared.scale.Scale.{Scale}
use Rattle.vp_scale.specs.declared.scale.Scale.TheVariants.{Full, Half, Quarter, Eighth}

-- the width and height of the square of pixels that becomes one pixel
abbrev pub factor_of : Scale → ℕ
factor_of Full = 1
factor_of Half = 2
factor_of Quarter = 4
factor_of Eighth = 8

-- 1, 2, 4 or 8
abbrev pub IsFactor : ℕ → Type 0
IsFactor k = (k ≡ 1) ⊎ (k ≡ 2) ⊎ (k ≡ 4) ⊎ (k ≡ 8)

-- the number of squares of k by k pixels that cover a side of n pixels
abbrev pub scaled_side : ℕ → ℕ → ℕ
scaled_side k n = (n + (k - 1)) / k
