-- The pixels of a row that are outside a line, and those inside.
use Rattle.std.proofs.Common.{◌≡◌, ℕ, ℤ, pos, negsuc, ◌+◌, ◌-◌, ◌<◌, ◌≤◌, ◌+ℤ◌, ◌≤ℤ◌, min, List, length, get_or, take, drop, refl, ap, subst, ◌∙◌, sym, arith}
use Rattle.std.specs.Prelude.{unsigned_abs}
use Rattle.std.specs.Int.{int_min, int_max}
use Rattle.std.proofs.lemmas.Int.{ints, clamps}
use Rattle.std.proofs.lemmas.Simd.{get_or-chunk, length-chunk}
use Rattle.vp_inter.specs.Inter.{nearest}

below_zero : (size : ℕ) (z : ℤ) → z ≤ℤ negsuc 0 → nearest size z ≡ 0
below_zero size (pos n) h = absurd (omega (arith, ints))
below_zero size (negsuc n) h = refl

from_zero : (size n : ℕ) (z : ℤ) → z ≡ pos n → nearest size z ≡ min n (size - 1)
from_zero size n z e = ap (nearest size) e

-- how many columns of a row are left of a line, where in the line the next begins, and how many are inside
pub record Cut (size side : ℕ) (left : ℤ) (outside start inside : ℕ) : Type 0 where
  pub some : 0 < size
  pub outside_is : outside ≡ min (unsigned_abs (int_min left (pos 0))) side
  pub start_is : start ≡ min (unsigned_abs (int_max left (pos 0))) size
  pub inside_is : inside ≡ min (size - start) (side - outside)

start_of : (size side outside start inside c : ℕ) (left : ℤ) → outside ≡ min (unsigned_abs (int_min left (pos 0))) side → start ≡ min (unsigned_abs (int_max left (pos 0))) size
    → inside ≡ min (size - start) (side - outside) → outside ≤ c → c < outside + inside → left +ℤ pos c ≡ pos (start + (c - outside))
start_of size side outside start inside c (pos n) o s i h k = omega (arith, ints, clamps)
start_of size side outside start inside c (negsuc n) o s i h k = omega (arith, ints, clamps)

module _ {size side outside start inside : ℕ} {left : ℤ} (cut : Cut size side left outside start inside) (c : ℕ) where
  pub before_line : c < outside → nearest size (left +ℤ pos c) ≡ 0
  before_line h =
      below_zero size (left +ℤ pos c) (omega (arith, ints, clamps))

  pub in_line : outside ≤ c → c < outside + inside → nearest size (left +ℤ pos c) ≡ start + (c - outside)
  in_line h k =
      let s = cut.start_is in let i = cut.inside_is in
      let z : left +ℤ pos c ≡ pos (start + (c - outside)) = start_of size side outside start inside c left cut.outside_is s i h k in
      from_zero size (start + (c - outside)) (left +ℤ pos c) z ∙ (let m : min (start + (c - outside)) (size - 1) ≡ start + (c - outside) = omega arith in m)

  pub behind_line : outside + inside ≤ c → c < side → nearest size (left +ℤ pos c) ≡ size - 1
  behind_line h k =
      let n : ℕ = unsigned_abs (left +ℤ pos c) in
      let z : left +ℤ pos c ≡ pos n = omega (arith, ints, clamps) in
      let large : size ≤ n = omega (arith, ints, clamps) in
      from_zero size n (left +ℤ pos c) z ∙ (let m : min n (size - 1) ≡ size - 1 = omega arith in m)

-- ---- a part of a line
pub part_at : (xs : List ℕ) (start n k : ℕ) → k < n → get_or (take (start + n - start) (drop start xs)) k 0 ≡ get_or xs (start + k) 0
part_at xs start n k h = let e : start + n - start ≡ n = omega arith in ap (λ (m : ℕ). get_or (take m (drop start xs)) k 0) e ∙ get_or-chunk start n xs k 0 h

pub part_long : (xs : List ℕ) (start n k : ℕ) → start + n ≤ length xs → k < n → k < length (take (start + n - start) (drop start xs))
part_long xs start n k room h = let e : start + n - start ≡ n = omega arith in let l : length (take n (drop start xs)) ≡ n = length-chunk start n xs room in subst (λ (m : ℕ). k < length (take m (drop start xs))) (sym e) (omega arith)
