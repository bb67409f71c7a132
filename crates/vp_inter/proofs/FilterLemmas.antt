-- Lemmas on the filters.
use Rattle.std.proofs.Common.{◌≡◌, ◌∙◌, ℕ, ◌+◌, ◌-◌, ◌*◌, ◌/◌, ◌<◌, ◌≤◌, lit<, Bool, true, false, cond, nat_eq, ℤ, pos, ◌+ℤ◌, List, [], ◌∷◌, refl, ap, arith}
use Rattle.std.proofs.lemmas.Int.{ints, clamps}
use lib.Signed.{shr_z as floor_div}
use Rattle.vp_tables.specs.Tables.{six_taps}
use Rattle.vp_inter.specs.Filter.{taps, clamp_to_pixel, weighed, filtered_pixel, filter_six}

abbrev still : List ℤ
still = pos 0 ∷ pos 0 ∷ pos 128 ∷ pos 0 ∷ pos 0 ∷ pos 0 ∷ []

taps_by : (b : Bool) → cond b (six_taps 0) (pos 0 ∷ pos 0 ∷ pos (128 - 16 * 0) ∷ pos (16 * 0) ∷ pos 0 ∷ pos 0 ∷ []) ≡ still
unfolding six_taps
taps_by true = refl
taps_by false = refl

taps-still : (version : ℕ) → taps version 0 ≡ still
unfolding taps
taps-still version = taps_by (nat_eq version 0)

held_small : (n : ℕ) → n ≤ 255 → clamp_to_pixel (pos n) ≡ n
held_small n fits = omega (arith, ints, clamps)

held_bound : (z : ℤ) → clamp_to_pixel z ≤ 255
held_bound z = omega (arith, ints, clamps)

pub filtered_bound : (weights : List ℤ) (a b c d e f : ℕ) → filtered_pixel weights a b c d e f ≤ 255
unfolding filtered_pixel
filtered_bound weights a b c d e f = held_bound (floor_div (weighed weights a b c d e f +ℤ pos 64) 128)

filtered-still : (a b c d e f : ℕ) → c ≤ 255 → filtered_pixel still a b c d e f ≡ c
unfolding filtered_pixel
filtered-still a b c d e f fits =
    let m : ((a * 0 + b * 0) + (c * 128 + d * 0) + (e * 0 + f * 0) + 64) / 128 ≡ c = omega arith in
    ap (λ (n : ℕ). clamp_to_pixel (pos n)) m ∙ held_small c fits

-- at no eighths a pass keeps the pixel
pub filter_six-whole_pixels : (version : ℕ) (pixel : ℕ → ℕ) → pixel 2 ≤ 255 → filter_six (taps version 0) pixel ≡ pixel 2
filter_six-whole_pixels version pixel fits =
    ap (λ (weights : List ℤ). filter_six weights pixel) (taps-still version)
    ∙ filtered-still (pixel 0) (pixel 1) (pixel 2) (pixel 3) (pixel 4) (pixel 5) fits

pub filter_six-same : (weights : List ℤ) (f g : ℕ → ℕ) → ((k : ℕ) → k < 6 → f k ≡ g k) → filter_six weights f ≡ filter_six weights g
filter_six-same weights f g same =
    ap (λ (v : ℕ). filtered_pixel weights v (f 1) (f 2) (f 3) (f 4) (f 5)) (same 0 (lit< tt))
    ∙ ap (λ (v : ℕ). filtered_pixel weights (g 0) v (f 2) (f 3) (f 4) (f 5)) (same 1 (lit< tt))
    ∙ ap (λ (v : ℕ). filtered_pixel weights (g 0) (g 1) v (f 3) (f 4) (f 5)) (same 2 (lit< tt))
    ∙ ap (λ (v : ℕ). filtered_pixel weights (g 0) (g 1) (g 2) v (f 4) (f 5)) (same 3 (lit< tt))
    ∙ ap (λ (v : ℕ). filtered_pixel weights (g 0) (g 1) (g 2) (g 3) v (f 5)) (same 4 (lit< tt))
    ∙ ap (λ (v : ℕ). filtered_pixel weights (g 0) (g 1) (g 2) (g 3) (g 4) v) (same 5 (lit< tt))
