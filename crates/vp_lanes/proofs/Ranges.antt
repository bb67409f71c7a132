-- Numbers from -128 to 127, as negsuc 127 to pos 127.
use Rattle.std.proofs.Common.{◌≡◌, ◌*◌, ◌≤◌, arith, ℤ, pos, negsuc, ◌*ℤ◌, ◌≤ℤ◌, unsigned_abs}
use Rattle.std.proofs.lemmas.Int.{ints, clamps, unsigned_abs-mul}
use Rattle.std.proofs.Math.Nat.{mul-le-mul_left}
use lib.Signed.{shr_z as floor_div}
use Rattle.vp_lanes.specs.Lane.{clamp_to_i8}

-- ---- ranges
abbrev pub InByte : ℤ → Type 0
InByte z = (negsuc 127 ≤ℤ z) × (z ≤ℤ pos 127)

pub clamp8_in : (z : ℤ) → InByte (clamp_to_i8 z)
clamp8_in z = (omega (arith, ints, clamps), omega (arith, ints, clamps))

pub eighth_in : (z : ℤ) → InByte z → InByte (floor_div z 8)
eighth_in (pos n) p = (omega (arith, ints), omega (arith, ints))
eighth_in (negsuc n) p = (omega (arith, ints), omega (arith, ints))

-- ---- products with a weight
abs_128 : (z : ℤ) → InByte z → unsigned_abs z ≤ 128
abs_128 (pos n) p = omega (arith, ints)
abs_128 (negsuc n) p = omega (arith, ints)

abs_27 : (z : ℤ) → pos 0 ≤ℤ z → z ≤ℤ pos 27 → unsigned_abs z ≤ 27
abs_27 (pos n) p q = omega (arith, ints)
abs_27 (negsuc n) p q = absurd (omega (arith, ints))

within : (z : ℤ) → unsigned_abs z ≤ 3456 → (negsuc 3455 ≤ℤ z) × (z ≤ℤ pos 3456)
within (pos n) p = (omega (arith, ints), omega (arith, ints))
within (negsuc n) p = (omega (arith, ints), omega (arith, ints))

pub weight_in : (w k : ℤ) → InByte w → pos 0 ≤ℤ k → k ≤ℤ pos 27 → (negsuc 3455 ≤ℤ (w *ℤ k)) × ((w *ℤ k) ≤ℤ pos 3456)
weight_in w k p q r =
    let a : unsigned_abs w ≤ 128 = abs_128 w p in
    let b : unsigned_abs k ≤ 27 = abs_27 k q r in
    let m : unsigned_abs k * unsigned_abs w ≤ unsigned_abs k * 128 = mul-le-mul_left (unsigned_abs k) a in
    let e : unsigned_abs (w *ℤ k) ≡ unsigned_abs w * unsigned_abs k = unsigned_abs-mul w k in
    within (w *ℤ k) (omega arith)
