-- Vectors of eight lanes of i16: read, passed, widened, and times a factor.
use Rattle.std.proofs.Common.{◌≡◌, ℕ, zero, suc, ◌+◌, ◌-◌, ◌*◌, ◌<◌, ◌≤◌, ◌++◌, ℤ, pos, negsuc, ◌*ℤ◌, List, [], ◌∷◌, map, get_or, refl, ap, sym, subst, ◌∙◌, arith, to_z, of_z, w32, unsigned_abs}
use Rattle.std.proofs.lemmas.Int.{ints, to_z-of_z, unsigned_abs-mul}
use Rattle.std.proofs.lemmas.List.{get_or_append_left, get_or-append_right}
use Rattle.std.proofs.Math.Nat.{mul-le-mul}
use lib.Lanes.{Each1}
use lib.Signed.{shr_z as floor_div}
use mir.Syntax.{w16, signed, cast}
use mir.Val.{Val, SFits}
use mir.ValLaws.{to_z-Fits}
use denote.Laws.{Is}
use denote.Array.{Array}
use borrow.Kind.Array.{e_s_int}
use borrow.Rule.Simd.Lanes.{act1, Asks1}
use borrow.Table.Row.{s_int}
use Rattle.vp_lanes.specs.Lane.{lane}
use Rattle.vp_lanes.proofs.Shape.{lanes_of, lane_is, lane_fits, mapped, length-ByLane, signed_lanes, each_lane}
use Rattle.vp_lanes.proofs.Signed.{Signed, Stands}
use Rattle.vp_lanes.proofs.Signed32 as long
use Rattle.vp_transform.proofs.Vectors.{short16_fits}

-- a number as it is handed on
abbrev pub coded16 : ℤ → ℤ
coded16 z = to_z w16 (of_z w16 z)

pub sfits16 : {m : ℕ} {z : ℤ} → Stands m z → SFits w16 z
sfits16 {m} p = subst (SFits w16) p.is (to_z-Fits w16 m (record { fits = p.small }))

module _ {m : ℕ} {z : ℤ} (p : Stands m z) where
  once : coded16 (to_z w16 m) ≡ z
  once = ap (λ v. coded16 v) p.is ∙ to_z-of_z w16 z (sfits16 p)

  pub thrice : coded16 (coded16 (to_z w16 m)) ≡ z
  thrice = ap (λ v. coded16 v) once ∙ to_z-of_z w16 z (sfits16 p)

module _ {n : ℕ} {X Y : ℕ → ℤ} {xs ys : List ℕ} (p : Signed n X xs) (q : Signed n Y ys) where
  pub in_first : (k : ℕ) → k < n → Stands (get_or (xs ++ ys) k 0) (X k)
  in_first k h = let l = p.long in subst (λ m. Stands m (X k)) (sym (get_or_append_left xs ys 0 k (omega arith))) (p.at k h)

  pub in_second : (i k : ℕ) → i ≡ n + k → k < n → Stands (get_or (xs ++ ys) i 0) (Y k)
  in_second i k e h =
      let f : i - n ≡ k = omega arith in
      subst (λ m. Stands m (Y k)) (sym (get_or-append_right xs ys n i 0 p.long (omega arith) ∙ ap (λ j. get_or ys j 0) f)) (q.at k h)

-- the same numbers, said otherwise
pub resigned : {n : ℕ} {X Y : ℕ → ℤ} {xs : List ℕ} → Signed n X xs → ((j : ℕ) → j < n → X j ≡ Y j) → Signed n Y xs
resigned {xs = xs} p e = record { long = p.long; at = λ j h. subst (λ z. Stands (get_or xs j 0) z) (e j h) (p.at j h) }

-- ---- a vector that one call gave and the next is passed
abbrev pub handed16 : List ℤ → List ℤ
handed16 r = map (to_z w16) (map (of_z w16) r)

handed_lane : (r : List ℤ) (j : ℕ) → lane (handed16 r) j ≡ coded16 (lane r j)
handed_lane [] j = refl
handed_lane (x ∷ xs) zero = refl
handed_lane (x ∷ xs) (suc j) = handed_lane xs j

pub passed16 : (r : List ℤ) (j n : ℕ) → n < 32768 → unsigned_abs (lane r j) ≤ n → lane (handed16 r) j ≡ lane r j
passed16 r j n l h = handed_lane r j ∙ to_z-of_z w16 (lane r j) (short16_fits (lane r j) (omega arith))

-- ---- the high halves of products
short_in : (z : ℤ) → SFits w16 z → SFits w32 z
short_in (pos n) p = let s = p.sfits in record { sfits = omega (arith, ints) }
short_in (negsuc n) p = let s = p.sfits in record { sfits = omega (arith, ints) }

-- widened lanes
pub widened16 : (n : ℕ) (a : List ℤ) (vs : List Val) → Is (Array (e_s_int w16).ty n) a vs
    → long.Signed n (lane a) (map (act1 (cast signed signed w32) (s_int w16) (s_int w32)) (map (of_z w16) a))
widened16 n a vs p =
    let k = signed_lanes w16 n a vs p in
    let e = mapped (act1 (cast signed signed w32) (s_int w16) (s_int w32)) (mapped (of_z w16) (lanes_of (pos 0) n a k.0)) in
    record {
      long = length-ByLane e;
      at = λ j h. let f = lane_fits (SFits w16) (pos 0) n a k.0 k.1 j h in
          subst (λ m. long.Stands m (lane a j)) (sym (lane_is 0 e j h))
          (subst (λ z. long.Stands (of_z w32 z) (lane a j)) (sym (to_z-of_z w16 (lane a j) f)) (long.stands_of (lane a j) (short_in (lane a j) f)));
    }

-- narrowed lanes
module _ {n : ℕ} {Z : ℕ → ℤ} {xs : List ℕ} (p : long.Signed n Z xs) where
  pub to_shorts_fit : ((j : ℕ) → j < n → SFits w16 (Z j)) → Each1 (Asks1 (cast signed signed w16) (s_int w32)) xs
  to_shorts_fit r = each_lane (Asks1 (cast signed signed w16) (s_int w32)) (lanes_of 0 n xs p.long)
      (λ j h. subst (λ (y : ℤ). SFits w16 y) (sym (p.at j h).is) (r j h))

  pub to_shorts_out : ((j : ℕ) → j < n → SFits w16 (Z j)) → (j : ℕ) → j < n → lane (map (to_z w16) (map (act1 (cast signed signed w16) (s_int w32) (s_int w16)) xs)) j ≡ Z j
  to_shorts_out r j h =
      lane_is (pos 0) (mapped (to_z w16) (mapped (act1 (cast signed signed w16) (s_int w32) (s_int w16)) (lanes_of 0 n xs p.long))) j h
      ∙ ap (λ (y : ℤ). to_z w16 (of_z w16 y)) (p.at j h).is ∙ to_z-of_z w16 (Z j) (r j h)

product_small : (z : ℤ) (k : ℕ) → SFits w16 z → k ≤ 32767 → unsigned_abs (z *ℤ pos k) ≤ 32768 * 32767
product_small z k p l =
    let m : unsigned_abs z * k ≤ 32768 * 32767 = mul-le-mul (small z p) l in
    let e : unsigned_abs (z *ℤ pos k) ≡ unsigned_abs z * k = unsigned_abs-mul z (pos k) in
    omega arith
  where
    small : (y : ℤ) → SFits w16 y → unsigned_abs y ≤ 32768
    small (pos n) q = let s = q.sfits in omega arith
    small (negsuc n) q = let s = q.sfits in omega arith

pub product_long : (z : ℤ) (k : ℕ) → SFits w16 z → k ≤ 32767 → long.IsLong (z *ℤ pos k)
product_long z k p l = let m = product_small z k p l in (omega (arith, ints), omega (arith, ints))

shr_short : (z : ℤ) → unsigned_abs z ≤ 32768 * 32767 → SFits w16 (floor_div z 65536)
shr_short (pos n) h = record { sfits = omega arith }
shr_short (negsuc n) h = record { sfits = omega arith }

pub high_short : (z : ℤ) (k : ℕ) → SFits w16 z → k ≤ 32767 → SFits w16 (floor_div (z *ℤ pos k) 65536)
high_short z k p l = shr_short (z *ℤ pos k) (product_small z k p l)

-- eight lanes one by one
pub below_eight : (P : ℕ → Type 0) → P 0 → P 1 → P 2 → P 3 → P 4 → P 5 → P 6 → P 7 → (j : ℕ) → j < 8 → P j
below_eight P a b c d e f g h zero p = a
below_eight P a b c d e f g h (suc zero) p = b
below_eight P a b c d e f g h (suc (suc zero)) p = c
below_eight P a b c d e f g h (suc (suc (suc zero))) p = d
below_eight P a b c d e f g h (suc (suc (suc (suc zero)))) p = e
below_eight P a b c d e f g h (suc (suc (suc (suc (suc zero))))) p = f
below_eight P a b c d e f g h (suc (suc (suc (suc (suc (suc zero)))))) p = g
below_eight P a b c d e f g h (suc (suc (suc (suc (suc (suc (suc zero))))))) p = h
below_eight P a b c d e f g h (suc (suc (suc (suc (suc (suc (suc (suc n)))))))) p = absurd (omega arith)

cons_at : {x y : ℤ} {xs ys : List ℤ} → x ≡ y → xs ≡ ys → x ∷ xs ≡ y ∷ ys
cons_at {y = y} {xs = xs} e f = ap (λ v. v ∷ xs) e ∙ ap (λ v. y ∷ v) f

pub eight : {a0 a1 a2 a3 b0 b1 b2 b3 p0 p1 p2 p3 q0 q1 q2 q3 : ℤ} → a0 ≡ p0 → a1 ≡ p1 → a2 ≡ p2 → a3 ≡ p3 → b0 ≡ q0 → b1 ≡ q1 → b2 ≡ q2 → b3 ≡ q3
    → a0 ∷ a1 ∷ a2 ∷ a3 ∷ b0 ∷ b1 ∷ b2 ∷ b3 ∷ [] ≡ p0 ∷ p1 ∷ p2 ∷ p3 ∷ q0 ∷ q1 ∷ q2 ∷ q3 ∷ []
eight e0 e1 e2 e3 f0 f1 f2 f3 = cons_at e0 (cons_at e1 (cons_at e2 (cons_at e3 (cons_at f0 (cons_at f1 (cons_at f2 (cons_at f3 refl)))))))
