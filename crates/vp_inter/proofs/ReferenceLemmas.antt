-- Lemmas on the pixels of a reference.
use Rattle.std.proofs.Common.{◌≡◌, ◌∙◌, ℕ, ◌+◌, ◌-◌, ◌<◌, min, refl, ℤ, pos, negsuc, ◌+ℤ◌, ◌-ℤ◌, ◌≤◌, ◌≤ℤ◌, inl, inr, List, length, get_or, ap, sym, arith, rules, to_z, of_z, w32}
use Rattle.std.proofs.lemmas.List.{places}
use Rattle.std.proofs.lemmas.Bool.{cases_lt}
use Rattle.std.proofs.lemmas.Int.{ints, clamps}
use Rattle.std.specs.Int.{int_min, int_max}
use lib.IntN.{nat_abs}
use Rattle.vp_base.specs.Raster.{Raster, pixel, row_of}
use Rattle.vp_inter.specs.Inter.{nearest, reference_pixel}

pub nearest_below : (size : ℕ) (z : ℤ) → 0 < size → nearest size z < size
nearest_below size (pos n) some = let e : min n (size - 1) < size = omega arith in e
nearest_below size (negsuc n) some = some

pub nearest_inside : (size n k : ℕ) (z : ℤ) → z ≡ pos n → n + k < size → nearest size (z +ℤ pos k) ≡ n + k
nearest_inside size n k z e below = ap (λ (v : ℤ). nearest size (v +ℤ pos k)) e ∙ (let m : min (n + k) (size - 1) ≡ n + k = omega arith in m)

pub row_pixel : (p : Raster) (x y : ℕ) → length (row_of p y) ≡ p.width → x < p.width → get_or (row_of p y) x 0 ≡ pixel p x y
row_pixel p x y long below = search (rules, places)

-- a number of a line that is a row of the plane
pub line_inside : (p : Raster) (line : List ℕ) (left row : ℤ) (start k : ℕ) → line ≡ row_of p (nearest p.height row) → length line ≡ p.width
    → left ≡ pos start → start + k < p.width → get_or line (start + k) 0 ≡ reference_pixel p (left +ℤ pos k) row
unfolding reference_pixel
line_inside p line left row start k e long at below =
    ap (λ (l : List ℕ). get_or l (start + k) 0) e
    ∙ row_pixel p (start + k) (nearest p.height row) (ap length (sym e) ∙ long) below
    ∙ ap (λ (x : ℕ). pixel p x (nearest p.height row)) (sym (nearest_inside p.width start k left at below))

pub line_beyond : (p : Raster) (line : List ℕ) (column row : ℤ) → line ≡ row_of p (nearest p.height row) → length line ≡ p.width
    → 0 < p.width → get_or line (nearest (length line) column) 0 ≡ reference_pixel p column row
unfolding reference_pixel
line_beyond p line column row e long some =
    ap (λ (n : ℕ). get_or line (nearest n column) 0) long
    ∙ ap (λ (l : List ℕ). get_or l (nearest p.width column) 0) e
    ∙ row_pixel p (nearest p.width column) (nearest p.height row) (ap length (sym e) ∙ long) (nearest_below p.width column some)

pub natural : (z : ℤ) → pos 0 ≤ℤ z → z ≡ pos (nat_abs z)
natural (pos n) h = refl
natural (negsuc n) h = absurd (omega (arith, ints))

-- ---- sixteen numbers of a line at once

below_zero : (size : ℕ) (z : ℤ) → z ≤ℤ negsuc 0 → nearest size z ≡ 0
below_zero size (pos n) h = absurd (omega (arith, ints))
below_zero size (negsuc n) h = refl

from_zero : (size n : ℕ) (z : ℤ) → z ≡ pos n → nearest size z ≡ min n (size - 1)
from_zero size n z e = ap (nearest size) e

-- the nearest to z and the places behind it stand among the sixteen from the first on
pub nearest_moved : (size first from c : ℕ) (z : ℤ) → 16 ≤ size → c < 16 → first ≡ nearest (size - 15) z
    → pos from ≡ int_max (pos 0) (int_min (z -ℤ pos first +ℤ pos 16) (pos 32)) → first + min (from + c - 16) 15 ≡ nearest size (z +ℤ pos c)
nearest_moved size first from c (pos n) wide cin e f =
    let at : nearest size (pos n +ℤ pos c) ≡ min (n + c) (size - 1) = from_zero size (n + c) (pos n +ℤ pos c) (omega (arith, ints)) in
    let g : first ≡ min n (size - 15 - 1) = e in
    let h : first + min (from + c - 16) 15 ≡ min (n + c) (size - 1) = omega (arith, ints, clamps) in
    h ∙ sym at
nearest_moved size first from c (negsuc n) wide cin e f =
    let g : first ≡ 0 = e in
    elim (cases_lt n c) [
      | inl less ↦
          let at : nearest size (negsuc n +ℤ pos c) ≡ min (c - n - 1) (size - 1) = from_zero size (c - n - 1) (negsuc n +ℤ pos c) (omega (arith, ints)) in
          let h : first + min (from + c - 16) 15 ≡ min (c - n - 1) (size - 1) = omega (arith, ints, clamps) in
          h ∙ sym at
      | inr more ↦
          let at : nearest size (negsuc n +ℤ pos c) ≡ 0 = below_zero size (negsuc n +ℤ pos c) (omega (arith, ints)) in
          let h : first + min (from + c - 16) 15 ≡ 0 = omega (arith, ints, clamps) in
          h ∙ sym at
    ]

-- the nearest isn't farther from 0
pub nearest_near : (size : ℕ) (z : ℤ) (first : ℕ) → first ≡ nearest size z → negsuc 400000000 ≤ℤ z → z ≤ℤ pos 400000016
    → (first ≤ 400000016) × (pos first ≤ℤ int_max (pos 0) z)
nearest_near size (pos n) first e low high = let m : first ≡ min n (size - 1) = e in (omega (arith, ints), omega (arith, ints, clamps))
nearest_near size (negsuc n) first e low high = let m : first ≡ 0 = e in (omega arith, omega (arith, ints, clamps))

pub moved_by : (z : ℤ) (first : ℕ) → negsuc 400000000 ≤ℤ z → z ≤ℤ pos 400000016 → first ≤ 400000016 → pos first ≤ℤ int_max (pos 0) z
    → to_z w32 (of_z w32 (to_z w32 (of_z w32 (to_z w32 (of_z w32 z) -ℤ to_z w32 first)) +ℤ pos 16)) ≡ z -ℤ pos first +ℤ pos 16
moved_by z first low high near under = omega (arith, ints, clamps)

pub small_natural : (r z : ℤ) → r ≡ int_max (pos 0) (int_min z (pos 32)) → pos (nat_abs (to_z w32 (of_z w32 r))) ≡ r
small_natural r z e =
    let same : to_z w32 (of_z w32 r) ≡ r = omega (arith, ints, clamps) in
    ap (λ (w : ℤ). pos (nat_abs w)) same ∙ sym (natural r (omega (arith, ints, clamps)))
