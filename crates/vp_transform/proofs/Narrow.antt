-- Small numbers: nothing that the transform of four of them computes leaves i32.
use Rattle.std.proofs.Common.{◌≡◌, ap, min, ℕ, zero, suc, ◌+◌, ◌*◌, ◌<◌, ◌≤◌, ℤ, pos, negsuc, ◌+ℤ◌, ◌-ℤ◌, ◌*ℤ◌, List, [], ◌∷◌, length, of_z, w64, ◌%◌, ◌^◌, sym, subst, arith, unsigned_abs, slice_index_or, bit_or, inl, inr}
use Rattle.std.proofs.Math.Nat.{eq-or-lt_of_le}
use Rattle.std.proofs.lemmas.Int.{ints}
use Rattle.std.proofs.lemmas.Nat.{le_or_l, le_or_r}
use Rattle.vp_transform.specs.Fits.{Fits, EachWithin}
use Rattle.vp_transform.specs.Short.{cut}
use Rattle.vp_transform.specs.Transform.{scaled}
use Rattle.vp_transform.proofs.Sizes.{AtMost, sum-at_most, difference-at_most, times-at_most, scaled-at_most, c-at_most, d-at_most, first-at_most, second-at_most, third-at_most, fourth-at_most}
use Rattle.vp_lanes.proofs.Signed32.{IsLong}

pub long-at_most : {n : ℕ} {z : ℤ} → AtMost n z → n < 2147483648 → IsLong z
long-at_most h l = (omega (arith, ints, h.size), omega (arith, ints, h.size))

-- each number that the transform computes is an i32
pub record TurnIsLong (i0 i1 i2 i3 : ℤ) : Type 0 where
  pub a : IsLong (i0 +ℤ i2)
  pub b : IsLong (i0 -ℤ i2)
  pub sine_1 : IsLong (i1 *ℤ pos 35468)
  pub cosine_1 : IsLong (i1 *ℤ pos 20091)
  pub sine_3 : IsLong (i3 *ℤ pos 35468)
  pub cosine_3 : IsLong (i3 *ℤ pos 20091)
  pub grown_1 : IsLong (i1 +ℤ scaled i1 20091)
  pub grown_3 : IsLong (i3 +ℤ scaled i3 20091)
  pub c : IsLong (scaled i1 35468 -ℤ (i3 +ℤ scaled i3 20091))
  pub d : IsLong ((i1 +ℤ scaled i1 20091) +ℤ scaled i3 35468)
  pub first : IsLong ((i0 +ℤ i2) +ℤ ((i1 +ℤ scaled i1 20091) +ℤ scaled i3 35468))
  pub second : IsLong ((i0 -ℤ i2) +ℤ (scaled i1 35468 -ℤ (i3 +ℤ scaled i3 20091)))
  pub third : IsLong ((i0 -ℤ i2) -ℤ (scaled i1 35468 -ℤ (i3 +ℤ scaled i3 20091)))
  pub fourth : IsLong ((i0 +ℤ i2) -ℤ ((i1 +ℤ scaled i1 20091) +ℤ scaled i3 35468))

pub turn_is_long : {i0 i1 i2 i3 : ℤ} → AtMost 40960 i0 → AtMost 40960 i1 → AtMost 40960 i2 → AtMost 40960 i3 → TurnIsLong i0 i1 i2 i3
turn_is_long h0 h1 h2 h3 = record {
  a = long-at_most (sum-at_most h0 h2) (omega arith);
  b = long-at_most (difference-at_most h0 h2) (omega arith);
  sine_1 = long-at_most (times-at_most 35468 h1) (omega arith);
  cosine_1 = long-at_most (times-at_most 20091 h1) (omega arith);
  sine_3 = long-at_most (times-at_most 35468 h3) (omega arith);
  cosine_3 = long-at_most (times-at_most 20091 h3) (omega arith);
  grown_1 = long-at_most (sum-at_most h1 (scaled-at_most 20091 (omega arith) h1)) (omega arith);
  grown_3 = long-at_most (sum-at_most h3 (scaled-at_most 20091 (omega arith) h3)) (omega arith);
  c = long-at_most (c-at_most 40960 h0 h1 h2 h3) (omega arith);
  d = long-at_most (d-at_most 40960 h0 h1 h2 h3) (omega arith);
  first = long-at_most (first-at_most 40960 h0 h1 h2 h3) (omega arith);
  second = long-at_most (second-at_most 40960 h0 h1 h2 h3) (omega arith);
  third = long-at_most (third-at_most 40960 h0 h1 h2 h3) (omega arith);
  fourth = long-at_most (fourth-at_most 40960 h0 h1 h2 h3) (omega arith);
}

-- ---- the test of a block: the bits of its numbers, each with b added, together
pub record RaisedWithin (b bits : ℕ) (z : ℤ) : Type 0 where
  pub fits : Fits z
  pub raised : (of_z w64 z + b) % 2 ^ 64 ≤ bits

raised-more : {b m n : ℕ} {z : ℤ} → RaisedWithin b m z → m ≤ n → RaisedWithin b n z
raised-more h l = let r = h.raised in record { fits = h.fits; raised = omega (arith, r) }

pub all_bits : (b : ℕ) (xs : List ℤ) (i bits u : ℕ) → ((k : ℕ) → k < i → RaisedWithin b bits (slice_index_or xs k (pos 0))) → RaisedWithin b u (slice_index_or xs i (pos 0))
    → (k : ℕ) → k < i + 1 → RaisedWithin b (bit_or bits u) (slice_index_or xs k (pos 0))
all_bits b xs i bits u h g k l =
    elim (eq-or-lt_of_le {n = k} {m = i} (omega (arith, l))) as (λ _. RaisedWithin b (bit_or bits u) (slice_index_or xs k (pos 0)))
    [ inl e ↦ subst (λ v. RaisedWithin b (bit_or bits u) (slice_index_or xs v (pos 0))) (sym e) (raised-more g (le_or_r bits u)) | inr e ↦ raised-more (h k e) (le_or_l bits u) ]

small_of : (b : ℕ) (z : ℤ) (bits : ℕ) → b ≤ 2 ^ 40 → RaisedWithin b bits z → bits < 2 * b → unsigned_abs z ≤ b
small_of b (pos n) bits s h l = let m = h.fits.sfits in let r = h.raised in omega (arith, m, r)
small_of b (negsuc n) bits s h l = let m = h.fits.sfits in let r = h.raised in omega (arith, m, r)

pub each_small : (b bits : ℕ) (xs : List ℤ) → b ≤ 2 ^ 40 → ((k : ℕ) → k < length xs → RaisedWithin b bits (slice_index_or xs k (pos 0))) → bits < 2 * b → EachWithin b xs
each_small b bits [] s h l k = omega arith
each_small b bits (x ∷ xs) s h l zero = small_of b x bits s (h 0 (omega arith)) l
each_small b bits (x ∷ xs) s h l (suc k) = each_small b bits xs s (λ j m. h (suc j) (omega arith)) l k

-- ---- small numbers aren't cut
pub cut-small : (z : ℤ) → unsigned_abs z ≤ 32764 → cut z ≡ z
unfolding cut
cut-small (pos n) l = ap (λ m. pos m) (let e : min n 32767 ≡ n = omega arith in e)
cut-small (negsuc n) l = ap (λ m. negsuc m) (let e : min n 32767 ≡ n = omega arith in e)
