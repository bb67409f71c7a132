-- Numbers as the code has them, of known sizes: each is read as the number that it stands for.
use Rattle.std.proofs.Common.{◌≡◌, ℕ, ◌+◌, ◌*◌, ◌^◌, ◌<◌, ◌≤◌, ℤ, pos, ◌+ℤ◌, ◌-ℤ◌, ◌*ℤ◌, ap, ◌∙◌, subst, sym, arith}
use Rattle.std.proofs.lemmas.Int.{unsigned_abs-mul}
use Rattle.std.proofs.Math.Nat.{mul-le-mul_left}
use Rattle.vp_transform.specs.Fits.{Fits}
use Rattle.vp_transform.proofs.Words.{coded, read, read-along, fits-along, fits-shr, sum, difference}
use Rattle.vp_transform.proofs.Sizes.{AtMost, sum-at_most, difference-at_most, fits-at_most}
use lib.Signed.{shr_z as floor_div}

-- x stands for m, which is from -n to n
pub record Is (n : ℕ) (x m : ℤ) : Type 0 where
  pub same : x ≡ m
  pub size : AtMost n m

pub is_read : {n : ℕ} (z : ℤ) → AtMost n z → n < 2 ^ 63 → Is n (coded z) z
is_read z h l = record { same = read z (fits-at_most h l); size = h }

pub multiple-at_most : (k : ℕ) {z : ℤ} {n : ℕ} → AtMost n z → AtMost (k * n) (pos k *ℤ z)
multiple-at_most k {z} {n} h = record { size = subst (λ v. v ≤ k * n) (sym (unsigned_abs-mul (pos k) z)) (mul-le-mul_left k h.size) }

pub is_at : {n : ℕ} {x y m : ℤ} → x ≡ y → Is n y m → Is n x m
is_at e h = record { same = e ∙ h.same; size = h.size }

module _ {m n : ℕ} {x y u v : ℤ} (h : Is m x u) (k : Is n y v) (l : m + n < 2 ^ 63) where
  pub fits_sum : Fits (x +ℤ y)
  fits_sum = fits-along (sum h.same k.same) (fits-at_most (sum-at_most h.size k.size) l)

  pub fits_difference : Fits (x -ℤ y)
  fits_difference = fits-along (difference h.same k.same) (fits-at_most (difference-at_most h.size k.size) l)

  pub is_sum : Is (m + n) (coded (x +ℤ y)) (u +ℤ v)
  is_sum = record { same = read-along (sum h.same k.same) (fits-at_most (sum-at_most h.size k.size) l); size = sum-at_most h.size k.size }

  pub is_difference : Is (m + n) (coded (x -ℤ y)) (u -ℤ v)
  is_difference =
      record { same = read-along (difference h.same k.same) (fits-at_most (difference-at_most h.size k.size) l); size = difference-at_most h.size k.size }

pub is_multiple : (k : ℕ) {n : ℕ} {x u : ℤ} → Is n x u → k * n < 2 ^ 63 → Is (k * n) (coded (pos k *ℤ x)) (pos k *ℤ u)
is_multiple k h l =
    let s = multiple-at_most k h.size in
    record { same = read-along (ap (λ v. pos k *ℤ v) h.same) (fits-at_most s l); size = s }

pub read_shifted : (m : ℕ) {n : ℕ} {x u : ℤ} → Is n x u → n < 2 ^ 63 → coded (floor_div x m) ≡ floor_div u m
read_shifted m {u = u} h l = read-along (ap (λ v. floor_div v m) h.same) (fits-shr u m (fits-at_most h.size l))

pub constant : (k : ℕ) → Is k (pos k) (pos k)
constant k = record { same = λ i. pos k; size = record { size = omega arith } }
