-- Absolute values in lanes of i32, and sums of unsigned lanes.
use Rattle.std.proofs.Common.{◌≡◌, ℕ, ◌*◌, ◌<◌, ◌≤◌, ◌^◌, Bool, true, false, cond, List, map, length, get_or, sym, ap, ◌∙◌, subst, arith, ℤ, pos, negsuc, ◌-ℤ◌, ◌≤ℤ◌, Fits, w32, unsigned_abs}
use Rattle.std.proofs.Math.Nat.{mul-le-mul_left}
use Rattle.std.proofs.lemmas.Int.{ints}
use Rattle.std.specs.Int.{abs_diff}
use Rattle.std.proofs.lemmas.Bool.Decides.{nat_tests}
use lib.Lanes.{zip2, sel_l, top, Each1, sum_l}
use lib.Signed.{lt_z, non_neg}
use lib.Dec.{T}
use mir.Syntax.{signed, unsigned, lt, mask, cast}
use borrow.Rule.Simd.Lanes.{act1, act2, Asks1}
use borrow.Table.Row.{s_int}
use Rattle.vp_lanes.proofs.Shape.{ByLane, lanes_of, lane_is, mapped, zipped, selected, each_lane, length-ByLane}
use Rattle.vp_lanes.proofs.Signed32.{Signed, Stands, lt_is}
use Rattle.vp_search.proofs.SumLemmas.{sum_l-is, sum_below-bound}

abbrev below32 : ℕ → ℕ → ℕ
below32 = act2 (mask (lt signed)) (s_int w32) (s_int w32) (s_int w32)

pick : {m n : ℕ} {a b : ℤ} → Stands m a → Stands n b → (t : Bool) → Stands (cond t m n) (cond t a b)
pick p q true = p
pick p q false = q

by_lanes : {n : ℕ} {F : ℕ → ℕ} {xs : List ℕ} (Z : ℕ → ℤ) → ByLane n F xs → length xs ≡ n → ((j : ℕ) → j < n → Stands (F j) (Z j)) → Signed n Z xs
by_lanes Z e long all = record { long = long; at = λ j h. subst (λ m. Stands m (Z j)) (sym (lane_is 0 e j h)) (all j h) }

module _ {n : ℕ} {Z Y : ℕ → ℤ} {xs ys : List ℕ} (p : Signed n Z xs) (q : Signed n Y ys) where
  -- `abs`: ys is the negated xs
  pub signed_abs : Signed n (λ k. cond (lt_z (Z k) (Y k)) (Y k) (Z k)) (sel_l (map (top 31) (zip2 below32 xs ys)) ys xs)
  signed_abs =
      let x = lanes_of 0 n xs p.long in let y = lanes_of 0 n ys q.long in
      let r = selected (mapped (top 31) (zipped below32 x y)) y x in
      by_lanes (λ k. cond (lt_z (Z k) (Y k)) (Y k) (Z k)) r (length-ByLane r)
      (λ j h. subst (λ (t : Bool). Stands (cond t (get_or ys j 0) (get_or xs j 0)) (cond (lt_z (Z j) (Y j)) (Y j) (Z j))) (sym (lt_is (p.at j h) (q.at j h))) (pick (q.at j h) (p.at j h) (lt_z (Z j) (Y j))))

natural : (z : ℤ) → pos 0 ≤ℤ z → unsigned_abs z < 2 ^ 32 → T (non_neg z) × Fits w32 (unsigned_abs z)
natural (pos n) h k = (tt, record { fits = k })
natural (negsuc n) h k = absurd (omega (arith, ints))

module _ {n : ℕ} {Z : ℕ → ℤ} {xs : List ℕ} (p : Signed n Z xs) where
  -- a cast to unsigned lanes of the same width
  pub to_unsigned_fits : ((j : ℕ) → j < n → (pos 0 ≤ℤ Z j) × (Z j ≤ℤ pos 255)) → Each1 (Asks1 (cast signed unsigned w32) (s_int w32)) xs
  to_unsigned_fits r = each_lane (Asks1 (cast signed unsigned w32) (s_int w32)) (lanes_of 0 n xs p.long)
      (λ j h. subst (λ (y : ℤ). T (non_neg y) × Fits w32 (unsigned_abs y)) (sym (p.at j h).is) (let s = r j h in let a = s.0 in natural (Z j) (r j h).0 (omega (arith, ints))))

  pub to_unsigned_out : (j : ℕ) → j < n → get_or (map (act1 (cast signed unsigned w32) (s_int w32) (s_int w32)) xs) j 0 ≡ unsigned_abs (Z j)
  to_unsigned_out j h = lane_is 0 (mapped (act1 (cast signed unsigned w32) (s_int w32) (s_int w32)) (lanes_of 0 n xs p.long)) j h ∙ ap unsigned_abs (p.at j h).is

abbrev far : ℕ → ℕ → ℤ
far a b = cond (lt_z (pos a -ℤ pos b) (pos 0 -ℤ (pos a -ℤ pos b))) (pos 0 -ℤ (pos a -ℤ pos b)) (pos a -ℤ pos b)

pub distance : (a b : ℕ) → a < 256 → b < 256 → ((pos 0 ≤ℤ far a b) × (far a b ≤ℤ pos 255)) × (unsigned_abs (far a b) ≡ abs_diff a b)
distance a b ha hb = ((grind (arith, ints), grind (arith, ints)), grind (arith, ints))

pub small : (a b : ℕ) → a < 256 → b < 256 → abs_diff a b ≤ 255
small a b ha hb = grind (arith, nat_tests)

pub below_all : (n m : ℕ) (xs : List ℕ) → length xs ≡ n → ((j : ℕ) → j < n → get_or xs j 0 ≤ m) → sum_l xs ≤ n * m
below_all n m xs l h = let e = sum_l-is n xs l in let b = sum_below-bound n m (λ k. get_or xs k 0) h in omega arith

pub square_small : (x : ℕ) → x ≤ 255 → x * x ≤ 65025
square_small x h = let e = mul-le-mul_left x h in omega arith
