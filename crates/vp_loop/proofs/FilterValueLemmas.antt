-- Numbers that an i32 holds, passed from function to function.
use Rattle.std.proofs.Common.{◌≡◌, ℕ, ◌*◌, ◌<◌, ◌≤◌, ap, ap₂, ◌∙◌, sym, arith, ℤ, pos, negsuc, ◌+ℤ◌, ◌-ℤ◌, ◌*ℤ◌, ◌≤ℤ◌, unsigned_abs, w32}
use Rattle.std.proofs.lemmas.Int.{ints, unsigned_abs-mul}
use Rattle.std.proofs.Math.Nat.{mul-le-mul_left}
use mir.Val.{SFits}
use lib.Signed.{shr_z as floor_div}
use Rattle.vp_loop.specs.LineSteps.{signed, pixel_from}
use Rattle.vp_lanes.proofs.Ranges.{InByte}
use Rattle.vp_loop.proofs.Shift.{same, same_is, shift_is, fits_byte}

abs_128 : (z : ℤ) → InByte z → unsigned_abs z ≤ 128
abs_128 z p = grind (arith, ints)

abs_27 : (z : ℤ) → pos 0 ≤ℤ z → z ≤ℤ pos 27 → unsigned_abs z ≤ 27
abs_27 z p q = grind (arith, ints)

within : (z : ℤ) → unsigned_abs z ≤ 3456 → (negsuc 3455 ≤ℤ z) × (z ≤ℤ pos 3456)
within z p = (grind (arith, ints), grind (arith, ints))

product_in : (w k : ℤ) → InByte w → pos 0 ≤ℤ k → k ≤ℤ pos 27 → (negsuc 3455 ≤ℤ (w *ℤ k)) × ((w *ℤ k) ≤ℤ pos 3456)
product_in w k p q r =
    let a : unsigned_abs w ≤ 128 = abs_128 w p in
    let b : unsigned_abs k ≤ 27 = abs_27 k q r in
    let m : unsigned_abs k * unsigned_abs w ≤ unsigned_abs k * 128 = mul-le-mul_left (unsigned_abs k) a in
    let e : unsigned_abs (w *ℤ k) ≡ unsigned_abs w * unsigned_abs k = unsigned_abs-mul w k in
    within (w *ℤ k) (omega arith)

rounded_same : (z : ℤ) → negsuc 3455 ≤ℤ z → z ≤ℤ pos 3456 → same (same z +ℤ pos 63) ≡ z +ℤ pos 63
rounded_same z p q = omega (arith, ints)

-- a weighted pull, as the code computes it
pub shared : (w k : ℤ) → InByte w → pos 0 ≤ℤ k → k ≤ℤ pos 27
    → same (floor_div (same (same (same w *ℤ same k) +ℤ pos 63)) 128) ≡ floor_div (w *ℤ k +ℤ pos 63) 128
shared w k p q r =
    let b = product_in w k p q r in
    let e : same w *ℤ same k ≡ w *ℤ k = ap₂ (λ x y. x *ℤ y) (same_is w p) (let z : same k ≡ k = omega (arith, ints) in z) in
    let s : same (same (same w *ℤ same k) +ℤ pos 63) ≡ w *ℤ k +ℤ pos 63 = ap (λ z. same (same z +ℤ pos 63)) e ∙ rounded_same (w *ℤ k) b.0 b.1 in
    let f : SFits w32 (w *ℤ k +ℤ pos 63) = fits_byte (w *ℤ k +ℤ pos 63) (omega (arith, ints, b.0)) (omega (arith, ints, b.1)) in
    let t : same (w *ℤ k +ℤ pos 63) ≡ w *ℤ k +ℤ pos 63 = rounded_once (w *ℤ k) b.0 b.1 in
    ap (λ z. same (floor_div z 128)) (s ∙ sym t) ∙ shift_is (w *ℤ k +ℤ pos 63) 128 f
  where
    rounded_once : (z : ℤ) → negsuc 3455 ≤ℤ z → z ≤ℤ pos 3456 → same (z +ℤ pos 63) ≡ z +ℤ pos 63
    rounded_once z p q = omega (arith, ints)

-- a pixel raised or lowered by a number that was passed
pub up_by : (x n : ℕ) (r t : ℤ) → n ≡ pixel_from (signed x +ℤ same r) → InByte r → r ≡ t → n ≡ pixel_from (signed x +ℤ t)
up_by x n r t e p q = e ∙ ap (λ z. pixel_from (signed x +ℤ z)) (same_is r p ∙ q)

pub down_by : (x n : ℕ) (r t : ℤ) → n ≡ pixel_from (signed x -ℤ same r) → InByte r → r ≡ t → n ≡ pixel_from (signed x -ℤ t)
down_by x n r t e p q = e ∙ ap (λ z. pixel_from (signed x -ℤ z)) (same_is r p ∙ q)

-- the sum in `pull`
pub pull_same : (a d : ℤ) → InByte a → negsuc 254 ≤ℤ d → d ≤ℤ pos 255 → same (same a +ℤ same (pos 3 *ℤ same d)) ≡ a +ℤ pos 3 *ℤ d
pull_same a d p q r =
    let m : same (pos 3 *ℤ same d) ≡ pos 3 *ℤ d = omega (arith, ints) in
    omega (arith, ints)

-- the sum in `macroblock_level`
pub level_same : (f : ℤ) (base : ℕ) (a b : ℤ) → f ≡ pos base → base < 256 → InByte a → InByte b → same (same f +ℤ same (same a +ℤ same b)) ≡ pos base +ℤ (a +ℤ b)
level_same f base a b e h p q =
    let m : same (same a +ℤ same b) ≡ a +ℤ b = omega (arith, ints) in
    omega (arith, ints)
