-- Vectors of i32, as the logic holds them: the list xs of their bits. `Signed n Z xs` says that lane j is the number Z j.
use Rattle.std.proofs.Common.{◌≡◌, ℕ, ◌+◌, ◌-◌, ◌*◌, ◌%◌, ◌^◌, ◌<◌, true, false, cond, List, map, length, get_or, replicate, refl, sym, ◌∙◌, subst, arith, ℤ, pos, negsuc, ◌+ℤ◌, ◌-ℤ◌, ◌*ℤ◌, ◌≤ℤ◌, to_z, of_z, Fits, w8, w32, FitsSigned}
use Rattle.std.proofs.lemmas.Int.{ints, to_z-of_z, to_z_pos, wrapping_add-bits, wrapping_sub-bits, wrapping_mul-bits, int_wrap_fits}
use lib.Lanes.{zip2, top, Each1}
use lib.Signed.{lt_z, shr_z as floor_div, mag_shr, mag}
use mir.Syntax.{signed, unsigned, shr, cast, wrap_add, wrap_sub, wrap_mul}
use mir.Val.{Val, SFits}
use mir.ValLaws.{of_z_fits, to_z-Fits}
use denote.Laws.{Is}
use denote.Array.{Array}
use borrow.Kind.Array.{e_s_int}
use borrow.Rule.Simd.Lanes.{act1, act2}
use borrow.Table.Row.{s_int}
use Rattle.vp_lanes.specs.Lane.{lane}
use Rattle.vp_lanes.proofs.Shape.{ByLane, lanes_of, lane_is, lane_fits, mapped, zipped, splatted, length-ByLane, signed_lanes}

fits_range : (z : ℤ) → negsuc 2147483647 ≤ℤ z → z ≤ℤ pos 2147483647 → SFits w32 z
fits_range (pos n) p q = record { sfits = omega (arith, ints) }
fits_range (negsuc n) p q = record { sfits = omega (arith, ints) }

-- ---- one lane
abbrev pub IsLong : ℤ → Type 0
IsLong z = (negsuc 2147483647 ≤ℤ z) × (z ≤ℤ pos 2147483647)

pub record Stands (n : ℕ) (z : ℤ) : Type 0 where
  pub small : n < 4294967296
  pub is : to_z w32 n ≡ z

pub stands_of : (z : ℤ) → SFits w32 z → Stands (of_z w32 z) z
stands_of z p = record { small = (of_z_fits w32 z p).fits; is = to_z-of_z w32 z p }

pub stands_pos : (n : ℕ) → n < 2147483648 → Stands n (pos n)
stands_pos n p = record { small = omega arith; is = to_z_pos w32 n p }

long_fits : (z : ℤ) → IsLong z → FitsSigned w32 z
long_fits z p = fits_range z p.0 p.1

module _ {m n : ℕ} {a b : ℤ} (p : Stands m a) (q : Stands n b) where
  pub stands_add : IsLong (a +ℤ b) → Stands ((m + n) % 4294967296) (a +ℤ b)
  stands_add s =
      let ea : to_z w32 m ≡ a = p.is in let eb : to_z w32 n ≡ b = q.is in
      record { small = omega arith; is = wrapping_add-bits w32 m n p.small q.small ∙ rw (ea, eb) (int_wrap_fits w32 (a +ℤ b) (long_fits _ s)) }

  pub stands_sub : IsLong (a -ℤ b) → Stands ((m + (4294967296 - n)) % 4294967296) (a -ℤ b)
  stands_sub s =
      let ea : to_z w32 m ≡ a = p.is in let eb : to_z w32 n ≡ b = q.is in
      record { small = omega arith; is = wrapping_sub-bits w32 m n p.small q.small ∙ rw (ea, eb) (int_wrap_fits w32 (a -ℤ b) (long_fits _ s)) }

  pub stands_mul : IsLong (a *ℤ b) → Stands ((m * n) % 4294967296) (a *ℤ b)
  stands_mul s =
      let ea : to_z w32 m ≡ a = p.is in let eb : to_z w32 n ≡ b = q.is in
      record { small = omega arith; is = wrapping_mul-bits w32 m n p.small q.small ∙ rw (ea, eb) (int_wrap_fits w32 (a *ℤ b) (long_fits _ s)) }

  pub lt_is : top 31 (cond (lt_z (to_z w32 m) (to_z w32 n)) 4294967295 0) ≡ lt_z a b
  lt_is =
      let ea : to_z w32 m ≡ a = p.is in let eb : to_z w32 n ≡ b = q.is in
      rw (ea, eb) (elim (lt_z a b) as (λ t. top 31 (cond t 4294967295 0) ≡ t) [ true ↦ refl | false ↦ refl ])

shr_fits : (z : ℤ) (k : ℕ) → SFits w32 z → SFits w32 (floor_div z k)
shr_fits z k p = let h : mag z < 2 ^ 31 = p.sfits in record { sfits = omega (arith, mag_shr z k) }

pub sfits_from : (n : ℕ) (z : ℤ) → Stands n z → SFits w32 z
sfits_from n z p = subst (SFits w32) p.is (to_z-Fits w32 n (record { fits = p.small }))

pub stands_shr : (m : ℕ) (a : ℤ) (k : ℕ) → Stands m a → Stands (of_z w32 (floor_div (to_z w32 m) k)) (floor_div a k)
stands_shr m a k p = let e : to_z w32 m ≡ a = p.is in rw e (stands_of (floor_div a k) (shr_fits a k (sfits_from m a p)))

-- ---- vectors
pub record Signed (n : ℕ) (Z : ℕ → ℤ) (xs : List ℕ) : Type 0 where
  pub long : length xs ≡ n
  pub at : (j : ℕ) → j < n → Stands (get_or xs j 0) (Z j)

by_lanes : {n : ℕ} {F : ℕ → ℕ} {xs : List ℕ} (Z : ℕ → ℤ) → ByLane n F xs → ((j : ℕ) → j < n → Stands (F j) (Z j)) → Signed n Z xs
by_lanes Z e all = record { long = length-ByLane e; at = λ j h. subst (λ m. Stands m (Z j)) (sym (lane_is 0 e j h)) (all j h) }

-- a parameter
pub signed_param : (n : ℕ) (a : List ℤ) (vs : List Val) → Is (Array (e_s_int w32).ty n) a vs → Signed n (lane a) (map (of_z w32) a)
signed_param n a vs p =
    let k = signed_lanes w32 n a vs p in
    by_lanes (lane a) (mapped (of_z w32) (lanes_of (pos 0) n a k.0)) (λ j h. stands_of (lane a j) (lane_fits (SFits w32) (pos 0) n a k.0 k.1 j h))

-- widened bytes
pub widened : (n : ℕ) (x : List ℕ) → length x ≡ n → Each1 (Fits w8) x → Signed n (λ k. pos (get_or x k 0)) (map (act1 (cast unsigned signed w32) (s_int w8) (s_int w32)) x)
widened n x long fits =
    by_lanes (λ k. pos (get_or x k 0)) (mapped (act1 (cast unsigned signed w32) (s_int w8) (s_int w32)) (lanes_of 0 n x long))
    (λ j h. let f : get_or x j 0 < 256 = (lane_fits (Fits w8) 0 n x long fits j h).fits in stands_pos _ (omega arith))

pub signed_splat : (n y : ℕ) (z : ℤ) → Stands y z → Signed n (λ _. z) (replicate n y)
signed_splat n y z p = by_lanes (λ _. z) (splatted n y) (λ j h. p)

module _ {n : ℕ} {Z Y : ℕ → ℤ} {xs ys : List ℕ} (p : Signed n Z xs) (q : Signed n Y ys) where
  pub signed_add : ((j : ℕ) → j < n → IsLong (Z j +ℤ Y j)) → Signed n (λ k. Z k +ℤ Y k) (zip2 (act2 wrap_add (s_int w32) (s_int w32) (s_int w32)) xs ys)
  signed_add s = by_lanes (λ k. Z k +ℤ Y k) (zipped (act2 wrap_add (s_int w32) (s_int w32) (s_int w32)) (lanes_of 0 n xs p.long) (lanes_of 0 n ys q.long)) (λ j h. stands_add (p.at j h) (q.at j h) (s j h))

  pub signed_sub : ((j : ℕ) → j < n → IsLong (Z j -ℤ Y j)) → Signed n (λ k. Z k -ℤ Y k) (zip2 (act2 wrap_sub (s_int w32) (s_int w32) (s_int w32)) xs ys)
  signed_sub s = by_lanes (λ k. Z k -ℤ Y k) (zipped (act2 wrap_sub (s_int w32) (s_int w32) (s_int w32)) (lanes_of 0 n xs p.long) (lanes_of 0 n ys q.long)) (λ j h. stands_sub (p.at j h) (q.at j h) (s j h))

  pub signed_mul : ((j : ℕ) → j < n → IsLong (Z j *ℤ Y j)) → Signed n (λ k. Z k *ℤ Y k) (zip2 (act2 wrap_mul (s_int w32) (s_int w32) (s_int w32)) xs ys)
  signed_mul s = by_lanes (λ k. Z k *ℤ Y k) (zipped (act2 wrap_mul (s_int w32) (s_int w32) (s_int w32)) (lanes_of 0 n xs p.long) (lanes_of 0 n ys q.long)) (λ j h. stands_mul (p.at j h) (q.at j h) (s j h))

module _ {n : ℕ} {Z : ℕ → ℤ} {xs : List ℕ} (p : Signed n Z xs) where
  -- `>> k`
  pub signed_shr : (k : ℕ) → Signed n (λ i. floor_div (Z i) (2 ^ k)) (zip2 (act2 (shr signed) (s_int w32) (s_int w32) (s_int w32)) xs (replicate n k))
  signed_shr k = by_lanes (λ i. floor_div (Z i) (2 ^ k)) (zipped (act2 (shr signed) (s_int w32) (s_int w32) (s_int w32)) (lanes_of 0 n xs p.long) (splatted n k)) (λ j h. stands_shr (get_or xs j 0) (Z j) (2 ^ k) (p.at j h))

  -- the lanes as a caller sees them
  pub signed_out : (j : ℕ) → j < n → lane (map (to_z w32) xs) j ≡ Z j
  signed_out j h = lane_is (pos 0) (mapped (to_z w32) (lanes_of 0 n xs p.long)) j h ∙ (p.at j h).is
