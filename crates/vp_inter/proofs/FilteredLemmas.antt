-- Lemmas on rows of the horizontal pass that the blocks of several vectors share.
use Rattle.std.proofs.Common.{◌≡◌, ◌∙◌, ℕ, ◌+◌, ◌*◌, ◌/◌, ◌%◌, ◌<◌, ◌≤◌, ℤ, pos, negsuc, ◌+ℤ◌, ◌*ℤ◌, ◌≤ℤ◌, List, get_or, ap, sym, arith, refl}
use Rattle.std.proofs.lemmas.Int.{ints, int_rem_euclid_is}
use Rattle.std.specs.Prelude.{unsigned_abs}
use lib.Signed.{shr_z as floor_div}
use Rattle.vp_base.specs.Raster.{Raster}
use Rattle.vp_inter.specs.Vectors.{whole_pixels, fraction, first_tap}
use Rattle.vp_inter.specs.Filter.{taps, filter_six}
use Rattle.vp_inter.specs.Inter.{reference_pixel, horizontal_pass, inter_pixel}
use Rattle.vp_inter.specs.Filtered.{ArePaired, AreFiltered}
use Rattle.vp_inter.proofs.FilterLemmas.{filter_six-same, filter_six-whole_pixels}
use Rattle.vp_inter.proofs.PassLemmas.{inter_passes, horizontal_bound}

eighth : (z : ℤ) → ((pos 8 *ℤ floor_div z 8) ≤ℤ z) × (z ≤ℤ (pos 8 *ℤ floor_div z 8 +ℤ pos 7))
eighth (pos n) = (omega (arith, ints), omega (arith, ints))
eighth (negsuc n) = (omega (arith, ints), omega (arith, ints))

-- the parts of a number of eighths
pub whole_is : (k : ℤ) (e : ℕ) → whole_pixels (pos 8 *ℤ k +ℤ pos e) ≡ k +ℤ pos (e / 8)
unfolding whole_pixels
whole_is k e =
    let a = eighth (pos 8 *ℤ k +ℤ pos e) in
    omega (arith, ints)

pub fraction_is : (k : ℤ) (e : ℕ) → fraction (pos 8 *ℤ k +ℤ pos e) ≡ e % 8
unfolding fraction
fraction_is (pos n) e =
    ap unsigned_abs (int_rem_euclid_is (pos 8 *ℤ pos n +ℤ pos e) (pos 8) 8 0 (8 * n + e) (omega arith) refl (omega (arith, ints)))
    ∙ (let z : (8 * n + e) % 8 ≡ e % 8 = omega arith in z)
fraction_is (negsuc n) e =
    ap unsigned_abs (int_rem_euclid_is (pos 8 *ℤ negsuc n +ℤ pos e) (pos 8) 8 (n + 1) e (omega arith) refl (omega (arith, ints)))

-- the first tap of a vector is as far below that of another as its whole pixels
tap_below : (y : ℕ) (first row : ℤ) (skip : ℕ) → whole_pixels row ≡ whole_pixels first +ℤ pos skip → first_tap y row ≡ first_tap y first +ℤ pos skip
unfolding first_tap
tap_below y first row skip e = omega (arith, ints)

-- rows of the pass that begins some rows further down
further : (weights : List ℤ) (p : Raster) (left top : ℤ) (skip i c : ℕ) → horizontal_pass weights p left top (skip + i) c ≡ horizontal_pass weights p left (top +ℤ pos skip) i c
unfolding horizontal_pass
further weights p left top skip i c =
    ap (λ (z : ℤ). filter_six weights (λ k. reference_pixel p (left +ℤ pos (c + k)) z)) (let e : top +ℤ pos (skip + i) ≡ top +ℤ pos skip +ℤ pos i = omega (arith, ints) in e)

-- the pixels of a vector that lies some whole pixels further down
pub moved_down : (p : Raster) (x y : ℕ) (first row column : ℤ) (skip r c : ℕ) → whole_pixels row ≡ whole_pixels first +ℤ pos skip
    → filter_six (taps 0 (fraction row)) (λ k. horizontal_pass (taps 0 (fraction column)) p (first_tap x column) (first_tap y first) (skip + (r + k)) c)
    ≡ inter_pixel 0 p x y (record { row = row; column = column }) r c
moved_down p x y first row column skip r c below =
    filter_six-same (taps 0 (fraction row))
    (λ k. horizontal_pass (taps 0 (fraction column)) p (first_tap x column) (first_tap y first) (skip + (r + k)) c)
    (λ k. horizontal_pass (taps 0 (fraction column)) p (first_tap x column) (first_tap y row) (r + k) c)
    (λ k kin. further (taps 0 (fraction column)) p (first_tap x column) (first_tap y first) skip (r + k) c
    ∙ ap (λ (z : ℤ). horizontal_pass (taps 0 (fraction column)) p (first_tap x column) z (r + k) c) (sym (tap_below y first row skip below)))
    ∙ inter_passes 0 p x y (record { row = row; column = column }) r c

-- a pixel by the vertical pass over filtered rows, for a vector whose row has skip whole pixels more
pub filtered_is : (p : Raster) (x y : ℕ) (first row column : ℤ) (skip : ℕ) (rows : List ℕ) (r c : ℕ) → whole_pixels row ≡ whole_pixels first +ℤ pos skip
    → AreFiltered p x y (record { row = first; column = column }) rows → skip + r + 5 < 22 → c < 16
    → filter_six (taps 0 (fraction row)) (λ k. get_or rows ((skip + r + k) * 16 + c) 0) ≡ inter_pixel 0 p x y (record { row = row; column = column }) r c
filtered_is p x y first row column skip rows r c below are rin cin =
    let pixel : ℕ → ℕ → ℕ = horizontal_pass (taps 0 (fraction column)) p (first_tap x column) (first_tap y first) in
    filter_six-same (taps 0 (fraction row)) (λ k. get_or rows ((skip + r + k) * 16 + c) 0) (λ k. pixel (skip + (r + k)) c)
    (λ k kin. are (skip + r + k) c (omega arith) cin ∙ ap (λ (n : ℕ). pixel n c) (let e : skip + r + k ≡ skip + (r + k) = omega arith in e))
    ∙ moved_down p x y first row column skip r c below

-- at whole rows the horizontal pass is all
pub whole_row_is : (p : Raster) (x y : ℕ) (first row column : ℤ) (skip : ℕ) (rows : List ℕ) (r c : ℕ) → whole_pixels row ≡ whole_pixels first +ℤ pos skip → fraction row ≡ 0
    → AreFiltered p x y (record { row = first; column = column }) rows → skip + r + 2 < 22 → c < 16
    → get_or rows ((skip + 2 + r) * 16 + c) 0 ≡ inter_pixel 0 p x y (record { row = row; column = column }) r c
whole_row_is p x y first row column skip rows r c below none are rin cin =
    let pixel : ℕ → ℕ → ℕ = horizontal_pass (taps 0 (fraction column)) p (first_tap x column) (first_tap y first) in
    let six : ℕ → ℕ = λ (j : ℕ). pixel (skip + (r + j)) c in
    are (skip + 2 + r) c (omega arith) cin
    ∙ ap (λ (n : ℕ). pixel n c) (let e : skip + 2 + r ≡ skip + (r + 2) = omega arith in e)
    ∙ sym (filter_six-whole_pixels 0 six (horizontal_bound (taps 0 (fraction column)) p (first_tap x column) (first_tap y first) (skip + (r + 2)) c))
    ∙ ap (λ (n : ℕ). filter_six (taps 0 n) six) (sym none)
    ∙ moved_down p x y first row column skip r c below

-- six rows, in pairs
pub paired_six : (weights : List ℤ) (rows pairs : List ℕ) (r c at : ℕ) → ArePaired rows pairs → r ≤ 16 → c < 16 → at ≡ 32 * r
    → filter_six weights (λ k. get_or pairs (at + 32 * (k % 3) + (2 * c + k / 3)) 0) ≡ filter_six weights (λ k. get_or rows ((r + k) * 16 + c) 0)
paired_six weights rows pairs r c at are rin cin e =
    filter_six-same weights (λ k. get_or pairs (at + 32 * (k % 3) + (2 * c + k / 3)) 0) (λ k. get_or rows ((r + k) * 16 + c) 0)
    (λ k kin.
    let place : at + 32 * (k % 3) + (2 * c + k / 3) ≡ 2 * (16 * (r + k % 3) + c) + k / 3 = omega arith in
    let here : 16 * (r + k % 3) + c + 48 * (k / 3) ≡ (r + k) * 16 + c = omega arith in
    ap (λ (n : ℕ). get_or pairs n 0) place
    ∙ are (16 * (r + k % 3) + c) (k / 3) (omega arith) (omega arith)
    ∙ ap (λ (n : ℕ). get_or rows n 0) here)
