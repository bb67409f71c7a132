-- Means of bytes as computed in 16 bits.
use Rattle.std.proofs.Common.{◌≡◌, ℕ, ◌+◌, ◌*◌, ◌/◌, ◌%◌, ◌<◌, arith}
use Rattle.vp_intra.specs.Sub.{avg2, avg3}

pub mean2_small : (x y : ℕ) → x < 256 → y < 256 → ((x + y) % 65536 + 1) % 65536 / 2 < 256
mean2_small x y p q = omega arith

pub mean2_is : (x y : ℕ) → x < 256 → y < 256 → ((x + y) % 65536 + 1) % 65536 / 2 ≡ avg2 x y
unfolding avg2
mean2_is x y p q = omega arith

pub mean3_small : (x y z : ℕ) → x < 256 → y < 256 → z < 256 → (((x + y * 2 % 65536) % 65536 + z) % 65536 + 2) % 65536 / 4 < 256
mean3_small x y z p q r = omega arith

pub mean3_is : (x y z : ℕ) → x < 256 → y < 256 → z < 256 → (((x + y * 2 % 65536) % 65536 + z) % 65536 + 2) % 65536 / 4 ≡ avg3 x y z
unfolding avg3
mean3_is x y z p q r = omega arith

-- the mean of equal pixels
pub avg2-same : (x : ℕ) → avg2 x x ≡ x
unfolding avg2
avg2-same x = omega arith

pub avg3-same : (x : ℕ) → avg3 x x x ≡ x
unfolding avg3
avg3-same x = omega arith

pub avg3-turned : (x y z : ℕ) → avg3 x y z ≡ avg3 z y x
unfolding avg3
avg3-turned x y z = omega arith
