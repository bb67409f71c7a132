-- What the code's operations give where no number overflows: each is read as the number that it stands for.
use Rattle.std.proofs.Common.{◌≡◌, ℕ, ℤ, ◌+ℤ◌, ◌-ℤ◌, ◌*ℤ◌, ◌∙◌, ap, subst, sym, to_z, of_z, w64, arith, [], ◌∷◌}
use Rattle.std.proofs.lemmas.Int.{to_z-of_z}
use Rattle.vp_transform.specs.Fits.{Fits}
use lib.Signed.{shr_z as floor_div, mag_shr}

-- a number as the code has it
abbrev pub coded : ℤ → ℤ
coded z = to_z w64 (of_z w64 z)

pub read : (z : ℤ) → Fits z → coded z ≡ z
read z h = to_z-of_z w64 z h

pub fits-shr : (z : ℤ) (m : ℕ) → Fits z → Fits (floor_div z m)
fits-shr z m h = record { sfits = omega (arith, mag_shr z m, h.sfits) }

pub fits-along : {x z : ℤ} → x ≡ z → Fits z → Fits x
fits-along {x} {z} e h = subst (λ v. Fits v) (sym e) h

pub read-along : {x z : ℤ} → x ≡ z → Fits z → coded x ≡ z
read-along {x} {z} e h = ap (λ v. coded v) e ∙ read z h

module _ {x y m n : ℤ} (e : x ≡ m) (f : y ≡ n) where
  pub sum : x +ℤ y ≡ m +ℤ n
  sum = ap (λ v. v +ℤ y) e ∙ ap (λ v. m +ℤ v) f

  pub difference : x -ℤ y ≡ m -ℤ n
  difference = ap (λ v. v -ℤ y) e ∙ ap (λ v. m -ℤ v) f

pub read_sum : {x y m n : ℤ} → x ≡ m → y ≡ n → Fits (m +ℤ n) → coded (x +ℤ y) ≡ m +ℤ n
read_sum e f h = read-along (sum e f) h

pub read_difference : {x y m n : ℤ} → x ≡ m → y ≡ n → Fits (m -ℤ n) → coded (x -ℤ y) ≡ m -ℤ n
read_difference e f h = read-along (difference e f) h

-- x * k / 2^16
pub read_scaled : {x m : ℤ} (k : ℤ) → x ≡ m → Fits (m *ℤ k) → coded (floor_div (coded (x *ℤ k)) 65536) ≡ floor_div (m *ℤ k) 65536
read_scaled {x} {m} k e h =
    read-along (ap (λ v. floor_div v 65536) (read-along (ap (λ v. v *ℤ k) e) h)) (fits-shr (m *ℤ k) 65536 h)

pub four : {a b c d p q r s : ℤ} → a ≡ p → b ≡ q → c ≡ r → d ≡ s → a ∷ b ∷ c ∷ d ∷ [] ≡ p ∷ q ∷ r ∷ s ∷ []
four {a} {b} {c} {d} {p} {q} {r} {s} e f g h =
    ap (λ v. v ∷ b ∷ c ∷ d ∷ []) e ∙ ap (λ v. p ∷ v ∷ c ∷ d ∷ []) f ∙ ap (λ v. p ∷ q ∷ v ∷ d ∷ []) g ∙ ap (λ v. p ∷ q ∷ r ∷ v ∷ []) h
