-- Weighed sums that an i16 holds.
use Rattle.std.proofs.Common.{◌≡◌, ◌∙◌, ℕ, zero, suc, ◌*◌, ◌<◌, ◌≤◌, ap, arith, ℤ, pos, negsuc, ◌+ℤ◌, ◌-ℤ◌, ◌*ℤ◌, ◌≤ℤ◌, List, length, refl}
use Rattle.std.proofs.lemmas.Int.{ints, clamps}
use lib.Signed.{shr_z as floor_div}
use Rattle.std.specs.Prelude.{unsigned_abs}
use Rattle.std.specs.Int.{int_min, int_max}
use Rattle.vp_lanes.specs.Lane.{clamp_to_byte}
use Rattle.vp_tables.specs.Tables.{six_taps}
use Rattle.vp_inter.specs.Filter.{clamp_to_pixel, weighed, filtered_pixel, filter_six}
use Rattle.vp_inter.specs.Narrow.{IsFrom, IsShort, weight, pair, sum_of_two, sum_of_four, sum_of_six, SumsFitI16, ArePairable}

-- ---- one product
times : (x n : ℕ) → x < 256 → x * n ≤ 255 * n
times x n p = grind arith

-- a byte times a weight that isn't negative
pub raised_in : (x : ℕ) (t : ℤ) → x < 256 → pos 0 ≤ℤ t → (pos 0 ≤ℤ (pos x *ℤ t)) × ((pos x *ℤ t) ≤ℤ (pos 255 *ℤ t))
raised_in x (pos n) p q = let m : x * n ≤ 255 * n = times x n p in (omega (arith, ints), omega (arith, ints))
raised_in x (negsuc n) p q = absurd (omega (arith, ints))

-- and one that isn't positive
pub lowered_in : (x : ℕ) (t : ℤ) → x < 256 → t ≤ℤ pos 0 → ((pos 255 *ℤ t) ≤ℤ (pos x *ℤ t)) × ((pos x *ℤ t) ≤ℤ pos 0)
lowered_in x (pos zero) p q = (omega (arith, ints), omega (arith, ints))
lowered_in x (pos (suc n)) p q = absurd (omega (arith, ints))
lowered_in x (negsuc n) p q = let m : x * suc n ≤ 255 * suc n = times x (suc n) p in (omega (arith, ints), omega (arith, ints))

-- and a small one
pub small_in : (x : ℕ) (t : ℤ) → x < 256 → IsFrom (negsuc 15) (pos 16) t → IsFrom (negsuc 4079) (pos 4080) (pos x *ℤ t)
small_in x (pos n) p q = let r = raised_in x (pos n) p (omega (arith, ints)) in (omega (arith, ints), omega (arith, ints))
small_in x (negsuc n) p q = let r = lowered_in x (negsuc n) p (omega (arith, ints)) in (omega (arith, ints), omega (arith, ints))

-- ---- sums
pub pair_same : (a b c d : ℕ) (u v s t : ℤ) → a ≡ c → b ≡ d → u ≡ s → v ≡ t → pair a b u v ≡ pair c d s t
pair_same a b c d u v s t e f g h = cc

-- two pixels, whose weights come to little
pub pairable_fits : (a b : ℕ) (u v : ℤ) → ArePairable u v → a < 256 → b < 256 → IsShort (pair a b u v)
pairable_fits a b (pos m) (pos n) g pa pb =
    let ra = raised_in a (pos m) pa (omega (arith, ints)) in
    let rb = raised_in b (pos n) pb (omega (arith, ints)) in
    (omega (arith, ints), omega (arith, ints))
pairable_fits a b (pos m) (negsuc n) g pa pb =
    let ra = raised_in a (pos m) pa (omega (arith, ints)) in
    let rb = lowered_in b (negsuc n) pb (omega (arith, ints)) in
    (omega (arith, ints), omega (arith, ints))
pairable_fits a b (negsuc m) (pos n) g pa pb =
    let ra = lowered_in a (negsuc m) pa (omega (arith, ints)) in
    let rb = raised_in b (pos n) pb (omega (arith, ints)) in
    (omega (arith, ints), omega (arith, ints))
pairable_fits a b (negsuc m) (negsuc n) g pa pb =
    let ra = lowered_in a (negsuc m) pa (omega (arith, ints)) in
    let rb = lowered_in b (negsuc n) pb (omega (arith, ints)) in
    (omega (arith, ints), omega (arith, ints))

pub pairables : (w : List ℤ) → SumsFitI16 w → ArePairable (weight w 0) (weight w 3) × ArePairable (weight w 1) (weight w 4) × ArePairable (weight w 2) (weight w 5)
pairables w g = (
  ((omega (arith, ints), omega (arith, ints)), (omega (arith, ints), omega (arith, ints)), omega (arith, ints)),
  ((omega (arith, ints), omega (arith, ints)), (omega (arith, ints), omega (arith, ints)), omega (arith, ints)),
  ((omega (arith, ints), omega (arith, ints)), (omega (arith, ints), omega (arith, ints)), omega (arith, ints)),
)

pub inner_fits : (w : List ℤ) (pixel : ℕ → ℕ) → SumsFitI16 w → ((k : ℕ) → pixel k < 256) → IsShort (sum_of_four w pixel)
inner_fits w pixel g byte =
    let rb = lowered_in (pixel 1) (weight w 1) (byte 1) g.1.1 in
    let rc = raised_in (pixel 2) (weight w 2) (byte 2) g.2.0 in
    let rd = raised_in (pixel 3) (weight w 3) (byte 3) g.3.0 in
    let re = lowered_in (pixel 4) (weight w 4) (byte 4) g.5.1 in
    (omega (arith, ints), omega (arith, ints))

pub whole_fits : (w : List ℤ) (pixel : ℕ → ℕ) → SumsFitI16 w → ((k : ℕ) → pixel k < 256) → IsShort (sum_of_six w pixel)
whole_fits w pixel g byte =
    let ra = raised_in (pixel 0) (weight w 0) (byte 0) g.0.0 in
    let rb = lowered_in (pixel 1) (weight w 1) (byte 1) g.1.1 in
    let rc = raised_in (pixel 2) (weight w 2) (byte 2) g.2.0 in
    let rd = raised_in (pixel 3) (weight w 3) (byte 3) g.3.0 in
    let re = lowered_in (pixel 4) (weight w 4) (byte 4) g.5.1 in
    let rf = raised_in (pixel 5) (weight w 5) (byte 5) g.6.0 in
    (omega (arith, ints), omega (arith, ints))

-- rows three apart, by twos
pub far_fits : (weights : List ℤ) (a b c d e f : ℕ) → SumsFitI16 weights → a < 256 → b < 256 → c < 256 → d < 256 → e < 256 → f < 256
    → IsShort (pair a d (weight weights 0) (weight weights 3) -ℤ pos 16320) × IsShort (pair a d (weight weights 0) (weight weights 3) -ℤ pos 16320 +ℤ pair b e (weight weights 1) (weight weights 4))
    × IsShort (pair a d (weight weights 0) (weight weights 3) -ℤ pos 16320 +ℤ pair b e (weight weights 1) (weight weights 4) +ℤ pair c f (weight weights 2) (weight weights 5))
far_fits weights a b c d e f g pa pb pc pd pe pf =
    let ra = raised_in a (weight weights 0) pa g.0.0 in
    let rb = lowered_in b (weight weights 1) pb g.1.1 in
    let rc = raised_in c (weight weights 2) pc g.2.0 in
    let rd = raised_in d (weight weights 3) pd g.3.0 in
    let re = lowered_in e (weight weights 4) pe g.5.1 in
    let rf = raised_in f (weight weights 5) pf g.6.0 in
    ((omega (arith, ints), omega (arith, ints)), (omega (arith, ints), omega (arith, ints)), (omega (arith, ints), omega (arith, ints)))

pub far_is : (weights : List ℤ) (pixel : ℕ → ℕ) → pair (pixel 0) (pixel 3) (weight weights 0) (weight weights 3) -ℤ pos 16320 +ℤ pair (pixel 1) (pixel 4) (weight weights 1) (weight weights 4) +ℤ pair (pixel 2) (pixel 5) (weight weights 2) (weight weights 5) ≡ sum_of_six weights pixel
far_is weights pixel = omega (arith, ints)

-- ---- the end of a sum
-- what a signed byte holds, and 128 more, is a byte
pub ended_byte : (z : ℤ) → IsFrom (pos 0) (pos 255) (int_min (pos 127) (int_max (negsuc 127) z) +ℤ pos 128)
ended_byte z = (omega (arith, ints, clamps), omega (arith, ints, clamps))

pub ended_is : (z : ℤ) → unsigned_abs (int_min (pos 127) (int_max (negsuc 127) z) +ℤ pos 128) ≡ clamp_to_byte (z +ℤ pos 128)
ended_is z = omega (arith, ints, clamps)

floor : (z : ℤ) → ((pos 128 *ℤ floor_div z 128) ≤ℤ z) × (z ≤ℤ (pos 128 *ℤ floor_div z 128 +ℤ pos 127))
floor (pos n) = (omega (arith, ints), omega (arith, ints))
floor (negsuc n) = (omega (arith, ints), omega (arith, ints))

-- 16384 that was taken away before the shift is 128 after it
pub put_back : (z y : ℤ) → y ≡ z +ℤ pos 16384 → floor_div z 128 +ℤ pos 128 ≡ floor_div y 128
put_back z y e = let p = floor z in let q = floor y in omega (arith, ints)

pub held_is : (z : ℤ) → clamp_to_byte z ≡ clamp_to_pixel z
held_is z = omega (arith, ints, clamps)

pub whole_is : (w : List ℤ) (pixel : ℕ → ℕ) (sum : ℤ) → sum ≡ sum_of_six w pixel → clamp_to_byte (floor_div sum 128 +ℤ pos 128) ≡ filter_six w pixel
unfolding filtered_pixel
whole_is w pixel sum e =
    let y : ℤ = weighed w (pixel 0) (pixel 1) (pixel 2) (pixel 3) (pixel 4) (pixel 5) +ℤ pos 64 in
    ap clamp_to_byte (put_back sum y (omega (arith, ints))) ∙ held_is (floor_div y 128)

none : (a b : ℕ) (u v : ℤ) → (u ≡ pos 0) × (v ≡ pos 0) → pair a b u v ≡ pos 0
none a b u v are = pair_same a b a b u v (pos 0) (pos 0) refl refl are.0 are.1 ∙ (let z : pair a b (pos 0) (pos 0) ≡ pos 0 = omega (arith, ints) in z)

pub inner_is : (w : List ℤ) (pixel : ℕ → ℕ) (sum : ℤ) → (weight w 0 ≡ pos 0) × (weight w 5 ≡ pos 0) → sum ≡ sum_of_four w pixel
    → clamp_to_byte (floor_div sum 128 +ℤ pos 128) ≡ filter_six w pixel
inner_is w pixel sum ends e =
    let n : pair (pixel 0) (pixel 5) (weight w 0) (weight w 5) ≡ pos 0 = none _ _ _ _ ends in
    whole_is w pixel sum (omega (arith, ints))

pub middle_is : (w : List ℤ) (pixel : ℕ → ℕ) (sum : ℤ) → (weight w 0 ≡ pos 0) × (weight w 5 ≡ pos 0) → (weight w 1 ≡ pos 0) × (weight w 4 ≡ pos 0) → sum ≡ sum_of_two w pixel
    → clamp_to_byte (floor_div sum 128 +ℤ pos 128) ≡ filter_six w pixel
middle_is w pixel sum ends seconds e =
    let n : pair (pixel 1) (pixel 4) (weight w 1) (weight w 4) ≡ pos 0 = none _ _ _ _ seconds in
    inner_is w pixel sum ends (omega (arith, ints))

-- ---- the weights of the table
pub six_taps-gentle : (eighths : ℕ) → 0 < eighths → eighths < 8 → (length (six_taps eighths) ≡ 6) × SumsFitI16 (six_taps eighths)
unfolding six_taps
six_taps-gentle zero some p = absurd (omega arith)
six_taps-gentle (suc zero) some p = (refl, ((omega (arith, ints), omega (arith, ints)), (omega (arith, ints), omega (arith, ints)), (omega (arith, ints), omega (arith, ints)), (omega (arith, ints), omega (arith, ints)), omega (arith, ints), (omega (arith, ints), omega (arith, ints)), (omega (arith, ints), omega (arith, ints)), omega (arith, ints), omega (arith, ints)))
six_taps-gentle (suc (suc zero)) some p = (refl, ((omega (arith, ints), omega (arith, ints)), (omega (arith, ints), omega (arith, ints)), (omega (arith, ints), omega (arith, ints)), (omega (arith, ints), omega (arith, ints)), omega (arith, ints), (omega (arith, ints), omega (arith, ints)), (omega (arith, ints), omega (arith, ints)), omega (arith, ints), omega (arith, ints)))
six_taps-gentle (suc (suc (suc zero))) some p = (refl, ((omega (arith, ints), omega (arith, ints)), (omega (arith, ints), omega (arith, ints)), (omega (arith, ints), omega (arith, ints)), (omega (arith, ints), omega (arith, ints)), omega (arith, ints), (omega (arith, ints), omega (arith, ints)), (omega (arith, ints), omega (arith, ints)), omega (arith, ints), omega (arith, ints)))
six_taps-gentle (suc (suc (suc (suc zero)))) some p = (refl, ((omega (arith, ints), omega (arith, ints)), (omega (arith, ints), omega (arith, ints)), (omega (arith, ints), omega (arith, ints)), (omega (arith, ints), omega (arith, ints)), omega (arith, ints), (omega (arith, ints), omega (arith, ints)), (omega (arith, ints), omega (arith, ints)), omega (arith, ints), omega (arith, ints)))
six_taps-gentle (suc (suc (suc (suc (suc zero))))) some p = (refl, ((omega (arith, ints), omega (arith, ints)), (omega (arith, ints), omega (arith, ints)), (omega (arith, ints), omega (arith, ints)), (omega (arith, ints), omega (arith, ints)), omega (arith, ints), (omega (arith, ints), omega (arith, ints)), (omega (arith, ints), omega (arith, ints)), omega (arith, ints), omega (arith, ints)))
six_taps-gentle (suc (suc (suc (suc (suc (suc zero)))))) some p = (refl, ((omega (arith, ints), omega (arith, ints)), (omega (arith, ints), omega (arith, ints)), (omega (arith, ints), omega (arith, ints)), (omega (arith, ints), omega (arith, ints)), omega (arith, ints), (omega (arith, ints), omega (arith, ints)), (omega (arith, ints), omega (arith, ints)), omega (arith, ints), omega (arith, ints)))
six_taps-gentle (suc (suc (suc (suc (suc (suc (suc zero))))))) some p = (refl, ((omega (arith, ints), omega (arith, ints)), (omega (arith, ints), omega (arith, ints)), (omega (arith, ints), omega (arith, ints)), (omega (arith, ints), omega (arith, ints)), omega (arith, ints), (omega (arith, ints), omega (arith, ints)), (omega (arith, ints), omega (arith, ints)), omega (arith, ints), omega (arith, ints)))
six_taps-gentle (suc (suc (suc (suc (suc (suc (suc (suc n)))))))) some p = absurd (omega arith)
