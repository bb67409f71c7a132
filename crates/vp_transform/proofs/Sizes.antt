-- How large the transforms' numbers get.
use Rattle.std.proofs.Common.{ℕ, zero, suc, ◌+◌, ◌*◌, ◌^◌, ℤ, pos, negsuc, ◌+ℤ◌, ◌-ℤ◌, ◌*ℤ◌, ◌≤◌, ◌<◌, subst, sym, w64, arith, unsigned_abs, slice_index_or, ◌≤ℤ◌, neg_ℤ}
use Rattle.std.proofs.lemmas.Int.{ints, fits_signed_from_abs, unsigned_abs-mul}
use Rattle.vp_transform.specs.Fits.{Fits, TurnFits}
use Rattle.vp_transform.specs.Transform.{scaled, turned}
use Rattle.std.proofs.Math.Nat.{mul-le-mul_left, mul-le-mul_right}
use lib.Signed.{shr_z as floor_div}

-- z is from -n to n
pub record AtMost (n : ℕ) (z : ℤ) : Type 0 where
  pub size : unsigned_abs z ≤ n

pub sum-at_most : {x y : ℤ} {m n : ℕ} → AtMost m x → AtMost n y → AtMost (m + n) (x +ℤ y)
sum-at_most h k = record { size = omega (arith, ints, h.size, k.size) }

pub difference-at_most : {x y : ℤ} {m n : ℕ} → AtMost m x → AtMost n y → AtMost (m + n) (x -ℤ y)
difference-at_most h k = record { size = omega (arith, ints, h.size, k.size) }

-- z / 65536, rounded down
pub shr_16-at_most : (z : ℤ) (n : ℕ) → unsigned_abs z ≤ 65536 * n → unsigned_abs (floor_div z 65536) ≤ n
shr_16-at_most (pos a) n h = omega arith
shr_16-at_most (negsuc a) n h = omega arith

-- z / 8, rounded down
shr_3-at_most : (z : ℤ) (n : ℕ) → z ≤ℤ pos (8 * n + 7) → neg_ℤ (pos (8 * n)) ≤ℤ z → unsigned_abs (floor_div z 8) ≤ n
shr_3-at_most (pos a) n h l = let e : a ≤ 8 * n + 7 = omega (arith, ints) in omega arith
shr_3-at_most (negsuc a) n h l = let e : suc a ≤ 8 * n = omega (arith, ints) in omega arith

-- (z + k) / 8, rounded down
pub rounded-at_most : (z : ℤ) (k n : ℕ) → k ≤ 7 → AtMost (8 * n) z → AtMost n (floor_div (z +ℤ pos k) 8)
rounded-at_most z k n h g =
    let l : unsigned_abs z ≤ 8 * n = g.size in
    record { size = shr_3-at_most (z +ℤ pos k) n (omega (arith, ints)) (omega (arith, ints)) }

pub times-at_most : (k : ℕ) {z : ℤ} {n : ℕ} → AtMost n z → AtMost (n * k) (z *ℤ pos k)
times-at_most k {z} {n} h = record { size = subst (λ v. v ≤ n * k) (sym (unsigned_abs-mul z (pos k))) (mul-le-mul_right k h.size) }

pub scaled-at_most : (k : ℕ) {z : ℤ} {n : ℕ} → k ≤ 65536 → AtMost n z → AtMost n (scaled z k)
scaled-at_most k {z} {n} l h =
    let e : n * k ≤ n * 65536 = mul-le-mul_left n l in
    record { size = shr_16-at_most (z *ℤ pos k) n (omega (arith, (times-at_most k h).size)) }

pub fits-at_most : {z : ℤ} {n : ℕ} → AtMost n z → n < 2 ^ 63 → Fits z
fits-at_most {z} h l = fits_signed_from_abs w64 z (omega (arith, h.size))

pub more-at_most : {z : ℤ} {m n : ℕ} → AtMost m z → m ≤ n → AtMost n z
more-at_most h l = record { size = omega (arith, h.size) }

-- ---- the transform of four numbers of at most b
module _ (b : ℕ) {i0 i1 i2 i3 : ℤ} (h0 : AtMost b i0) (h1 : AtMost b i1) (h2 : AtMost b i2) (h3 : AtMost b i3) where
  pub c-at_most : AtMost (b + (b + b)) (scaled i1 35468 -ℤ (i3 +ℤ scaled i3 20091))
  c-at_most = difference-at_most (scaled-at_most 35468 (omega arith) h1) (sum-at_most h3 (scaled-at_most 20091 (omega arith) h3))

  pub d-at_most : AtMost (b + b + b) ((i1 +ℤ scaled i1 20091) +ℤ scaled i3 35468)
  d-at_most = sum-at_most (sum-at_most h1 (scaled-at_most 20091 (omega arith) h1)) (scaled-at_most 35468 (omega arith) h3)

  pub first-at_most : AtMost (5 * b) ((i0 +ℤ i2) +ℤ ((i1 +ℤ scaled i1 20091) +ℤ scaled i3 35468))
  first-at_most = more-at_most (sum-at_most (sum-at_most h0 h2) d-at_most) (omega arith)

  pub second-at_most : AtMost (5 * b) ((i0 -ℤ i2) +ℤ (scaled i1 35468 -ℤ (i3 +ℤ scaled i3 20091)))
  second-at_most = more-at_most (sum-at_most (difference-at_most h0 h2) c-at_most) (omega arith)

  pub third-at_most : AtMost (5 * b) ((i0 -ℤ i2) -ℤ (scaled i1 35468 -ℤ (i3 +ℤ scaled i3 20091)))
  third-at_most = more-at_most (difference-at_most (difference-at_most h0 h2) c-at_most) (omega arith)

  pub fourth-at_most : AtMost (5 * b) ((i0 +ℤ i2) -ℤ ((i1 +ℤ scaled i1 20091) +ℤ scaled i3 35468))
  fourth-at_most = more-at_most (difference-at_most (sum-at_most h0 h2) d-at_most) (omega arith)

  pub turned-at_most : (k : ℕ) → AtMost (5 * b) (slice_index_or (turned i0 i1 i2 i3) k (pos 0))
  turned-at_most zero = first-at_most
  turned-at_most (suc zero) = second-at_most
  turned-at_most (suc (suc zero)) = third-at_most
  turned-at_most (suc (suc (suc zero))) = fourth-at_most
  turned-at_most (suc (suc (suc (suc k)))) = record { size = omega arith }

  pub turn_fits : b ≤ 2 ^ 46 → TurnFits i0 i1 i2 i3
  turn_fits l = record {
    a = fits-at_most (sum-at_most h0 h2) (omega arith);
    b = fits-at_most (difference-at_most h0 h2) (omega arith);
    sine_1 = fits-at_most (times-at_most 35468 h1) (omega arith);
    cosine_1 = fits-at_most (times-at_most 20091 h1) (omega arith);
    sine_3 = fits-at_most (times-at_most 35468 h3) (omega arith);
    cosine_3 = fits-at_most (times-at_most 20091 h3) (omega arith);
    grown_1 = fits-at_most (sum-at_most h1 (scaled-at_most 20091 (omega arith) h1)) (omega arith);
    grown_3 = fits-at_most (sum-at_most h3 (scaled-at_most 20091 (omega arith) h3)) (omega arith);
    c = fits-at_most c-at_most (omega arith);
    d = fits-at_most d-at_most (omega arith);
    first = fits-at_most first-at_most (omega arith);
    second = fits-at_most second-at_most (omega arith);
    third = fits-at_most third-at_most (omega arith);
    fourth = fits-at_most fourth-at_most (omega arith);
  }

pub fits-below : (z : ℤ) → unsigned_abs z < 2 ^ 63 → Fits z
fits-below z h = fits_signed_from_abs w64 z h

pub four-at_most : AtMost 4 (pos 4)
four-at_most = record { size = omega arith }
