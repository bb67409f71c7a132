-- Vectors of i32 that are products of bytes, and sums of two such.
use Rattle.std.proofs.Common.{◌≡◌, ◌∙◌, refl, [], ◌∷◌, ℕ, zero, suc, ◌*◌, ◌+◌, ◌-◌, ◌<◌, ◌≤◌, ◌++◌, inl, inr, Bool, true, false, cond, List, map, length, get_or, replicate, sym, ap, subst, arith, rules, ℤ, pos, negsuc, ◌+ℤ◌, ◌*ℤ◌, ◌≤ℤ◌, to_z, of_z, w8, w16, w32}
use Rattle.std.proofs.lemmas.Bool.{cases_lt}
use Rattle.std.proofs.lemmas.List.{places}
use Rattle.std.proofs.lemmas.Int.{ints, clamps, to_z-of_z}
use Rattle.std.specs.Int.{int_min, int_max}
use lib.Lanes.{zip2, sel_l, top, Each1}
use lib.Signed.{lt_z}
use mir.Syntax.{Width, signed, lt, mask, cast}
use mir.Val.{Val, SFits}
use denote.Laws.{Is}
use denote.Array.{Array}
use borrow.Kind.Array.{e_s_int}
use borrow.Rule.Simd.Lanes.{act1, act2, Asks1}
use borrow.Table.Row.{s_int}
use Rattle.vp_lanes.specs.Lane.{lane}
use Rattle.vp_lanes.proofs.Shape.{ByLane, lanes_of, lane_is, lane_fits, mapped, zipped, selected, splatted, length-ByLane, signed_lanes, each_lane}
use Rattle.vp_lanes.proofs.Scalar.{fits_range}
use Rattle.vp_lanes.proofs.Signed32.{Signed, Stands, stands_of, lt_is}

-- one product
times : (x n : ℕ) → x < 256 → x * n ≤ 255 * n
times x n p = grind arith

pub product_in : (x : ℕ) (t : ℤ) → x < 256 → SFits w8 t → (negsuc 32639 ≤ℤ (pos x *ℤ t)) × ((pos x *ℤ t) ≤ℤ pos 32640)
product_in x (pos n) p q = let s = q.sfits in let m : x * n ≤ 255 * n = times x n p in (omega (arith, ints), omega (arith, ints))
product_in x (negsuc n) p q = let s = q.sfits in let m : x * suc n ≤ 255 * suc n = times x (suc n) p in (omega (arith, ints), omega (arith, ints))

short_in : (z : ℤ) → SFits w8 z → SFits w32 z
short_in (pos n) p = let s = p.sfits in record { sfits = omega (arith, ints) }
short_in (negsuc n) p = let s = p.sfits in record { sfits = omega (arith, ints) }

pub held_fits : (z : ℤ) → SFits w16 (int_min (pos 32767) (int_max (negsuc 32767) z))
held_fits z = fits_range _ (omega (arith, ints, clamps)) (omega (arith, ints, clamps))

pub held_same : (z : ℤ) → negsuc 32767 ≤ℤ z → z ≤ℤ pos 32767 → int_min (pos 32767) (int_max (negsuc 32767) z) ≡ z
held_same z p q = omega (arith, ints, clamps)

by_lanes : {n : ℕ} {F : ℕ → ℕ} {xs : List ℕ} (Z : ℕ → ℤ) → ByLane n F xs → ((j : ℕ) → j < n → Stands (F j) (Z j)) → Signed n Z xs
by_lanes Z e all = record { long = length-ByLane e; at = λ j h. subst (λ m. Stands m (Z j)) (sym (lane_is 0 e j h)) (all j h) }

-- widened signed bytes
pub widened_signed : (n : ℕ) (a : List ℤ) (vs : List Val) → Is (Array (e_s_int w8).ty n) a vs
    → Signed n (lane a) (map (act1 (cast signed signed w32) (s_int w8) (s_int w32)) (map (of_z w8) a))
widened_signed n a vs p =
    let k = signed_lanes w8 n a vs p in
    by_lanes (lane a) (mapped (act1 (cast signed signed w32) (s_int w8) (s_int w32)) (mapped (of_z w8) (lanes_of (pos 0) n a k.0)))
    (λ j h. let f = lane_fits (SFits w8) (pos 0) n a k.0 k.1 j h in
    subst (λ (z : ℤ). Stands (of_z w32 z) (lane a j)) (sym (to_z-of_z w8 (lane a j) f)) (stands_of (lane a j) (short_in (lane a j) f)))

abbrev below32 : ℕ → ℕ → ℕ
below32 = act2 (mask (lt signed)) (s_int w32) (s_int w32) (s_int w32)

pick : {m n : ℕ} {a b : ℤ} (t : Bool) → Stands m a → Stands n b → Stands (cond t m n) (cond t a b)
pick true p q = p
pick false p q = q

module _ {n : ℕ} {Z : ℕ → ℤ} {xs : List ℕ} (p : Signed n Z xs) where
  -- `simd_clamp` with two splats
  pub held_lanes : (l h : ℕ) (low high : ℤ) → Stands l low → Stands h high
      → Signed n (λ k. int_min high (int_max low (Z k)))
      (sel_l (map (top 31) (zip2 below32 (sel_l (map (top 31) (zip2 below32 xs (replicate n l))) (replicate n l) xs) (replicate n h)))
      (sel_l (map (top 31) (zip2 below32 xs (replicate n l))) (replicate n l) xs) (replicate n h))
  held_lanes l h low high sl sh =
      let x = lanes_of 0 n xs p.long in
      let r = selected (mapped (top 31) (zipped below32 x (splatted n l))) (splatted n l) x in
      by_lanes (λ k. int_min high (int_max low (Z k))) (selected (mapped (top 31) (zipped below32 r (splatted n h))) r (splatted n h))
      (λ j i. clamped j i)
    where
      clamped : (j : ℕ) → j < n → Stands (cond (top 31 (cond (lt_z (to_z w32 (cond (top 31 (cond (lt_z (to_z w32 (get_or xs j 0)) (to_z w32 l)) 4294967295 0)) l (get_or xs j 0))) (to_z w32 h)) 4294967295 0))
          (cond (top 31 (cond (lt_z (to_z w32 (get_or xs j 0)) (to_z w32 l)) 4294967295 0)) l (get_or xs j 0)) h) (int_min high (int_max low (Z j)))
      clamped j i =
          let first : Stands (cond (top 31 (cond (lt_z (to_z w32 (get_or xs j 0)) (to_z w32 l)) 4294967295 0)) l (get_or xs j 0)) (int_max low (Z j)) =
          subst (λ (t : Bool). Stands (cond t l (get_or xs j 0)) (int_max low (Z j))) (sym (lt_is (p.at j i) sl)) (pick (lt_z (Z j) low) sl (p.at j i)) in
          subst (λ (t : Bool). Stands (cond t (cond (top 31 (cond (lt_z (to_z w32 (get_or xs j 0)) (to_z w32 l)) 4294967295 0)) l (get_or xs j 0)) h) (int_min high (int_max low (Z j)))) (sym (lt_is first sh))
          (pick (lt_z (int_max low (Z j)) high) first sh)

  -- a cast to i16
  pub to_shorts_fit : ((j : ℕ) → j < n → SFits w16 (Z j)) → Each1 (Asks1 (cast signed signed w16) (s_int w32)) xs
  to_shorts_fit r = each_lane (Asks1 (cast signed signed w16) (s_int w32)) (lanes_of 0 n xs p.long)
      (λ j h. subst (λ (y : ℤ). SFits w16 y) (sym (p.at j h).is) (r j h))

  pub to_shorts_out : ((j : ℕ) → j < n → SFits w16 (Z j)) → (j : ℕ) → j < n → lane (map (to_z w16) (map (act1 (cast signed signed w16) (s_int w32) (s_int w16)) xs)) j ≡ Z j
  to_shorts_out r j h =
      lane_is (pos 0) (mapped (to_z w16) (mapped (act1 (cast signed signed w16) (s_int w32) (s_int w16)) (lanes_of 0 n xs p.long))) j h
      ∙ ap (λ (y : ℤ). to_z w16 (of_z w16 y)) (p.at j h).is ∙ to_z-of_z w16 (Z j) (r j h)

-- a vector of signed lanes, passed on
pub passed : (w : Width) (n : ℕ) (a : List ℤ) (vs : List Val) → Is (Array (e_s_int w).ty n) a vs → (j : ℕ) → j < n → lane (map (to_z w) (map (of_z w) a)) j ≡ lane a j
passed w n a vs p j h =
    let k = signed_lanes w n a vs p in
    lane_is (pos 0) (mapped (to_z w) (mapped (of_z w) (lanes_of (pos 0) n a k.0))) j h
    ∙ to_z-of_z w (lane a j) (lane_fits (SFits w) (pos 0) n a k.0 k.1 j h)

-- eight lanes one by one
pub by_eight : (P : ℕ → Type 0) → P 0 → P 1 → P 2 → P 3 → P 4 → P 5 → P 6 → P 7 → (j : ℕ) → j < 8 → P j
by_eight P a b c d e f g h zero p = a
by_eight P a b c d e f g h (suc zero) p = b
by_eight P a b c d e f g h (suc (suc zero)) p = c
by_eight P a b c d e f g h (suc (suc (suc zero))) p = d
by_eight P a b c d e f g h (suc (suc (suc (suc zero)))) p = e
by_eight P a b c d e f g h (suc (suc (suc (suc (suc zero))))) p = f
by_eight P a b c d e f g h (suc (suc (suc (suc (suc (suc zero)))))) p = g
by_eight P a b c d e f g h (suc (suc (suc (suc (suc (suc (suc zero))))))) p = h
by_eight P a b c d e f g h (suc (suc (suc (suc (suc (suc (suc (suc n)))))))) p = absurd (omega arith)

-- sixteen lanes one by one
pub by_sixteen : (P : ℕ → Type 0) → P 0 → P 1 → P 2 → P 3 → P 4 → P 5 → P 6 → P 7 → P 8 → P 9 → P 10 → P 11 → P 12 → P 13 → P 14 → P 15 → (i : ℕ) → i < 16 → P i
by_sixteen P a b c d e f g h a2 b2 c2 d2 e2 f2 g2 h2 i below =
    elim (cases_lt i 8) [
      | inl less ↦ by_eight P a b c d e f g h i less
      | inr more ↦
          let place : 8 + (i - 8) ≡ i = omega arith in
          subst P place (by_eight (λ j. P (8 + j)) a2 b2 c2 d2 e2 f2 g2 h2 (i - 8) (omega arith))
    ]

front : (xs ys : List ℕ) (k : ℕ) → k < length xs → get_or (xs ++ ys) k 0 ≡ get_or xs k 0
front xs ys k h = search (rules, places)

-- a lane that a swizzle of signed bytes takes
pub taken : {n : ℕ} (a : List ℤ) (vs : List Val) → Is (Array (e_s_int w8).ty n) a vs → (k : ℕ) → k < n → to_z w8 (get_or (map (of_z w8) a ++ map (of_z w8) a) k 0) ≡ lane a k
taken {n} a vs p k h =
    let q = signed_lanes w8 n a vs p in
    let b = mapped (of_z w8) (lanes_of (pos 0) n a q.0) in
    let long : length (map (of_z w8) a) ≡ n = length-ByLane b in
    ap (to_z w8) (front (map (of_z w8) a) (map (of_z w8) a) k (omega arith) ∙ lane_is 0 b k h)
    ∙ to_z-of_z w8 (lane a k) (lane_fits (SFits w8) (pos 0) n a q.0 q.1 k h)

pub product_same : (x y : ℕ) (u v : ℤ) → x ≡ y → u ≡ v → pos x *ℤ u ≡ pos y *ℤ v
product_same x y u v p q = cc

pub sum_same : (x y u v : ℤ) → x ≡ y → u ≡ v → x +ℤ u ≡ y +ℤ v
sum_same x y u v p q = cc

-- a small number as a signed byte
byte_fits : (z : ℤ) → negsuc 127 ≤ℤ z → z ≤ℤ pos 127 → SFits w8 z
byte_fits (pos n) p q = record { sfits = omega (arith, ints) }
byte_fits (negsuc n) p q = record { sfits = omega (arith, ints) }

pub cast_fits : (z : ℤ) → (negsuc 127 ≤ℤ z) × (z ≤ℤ pos 127) → SFits w8 (to_z w16 (of_z w16 z))
cast_fits z p =
    let g : SFits w16 z = fits_range z (omega (arith, ints)) (omega (arith, ints)) in
    subst (λ (y : ℤ). SFits w8 y) (sym (to_z-of_z w16 z g)) (byte_fits z p.0 p.1)

pub byte_is : (z : ℤ) → (negsuc 127 ≤ℤ z) × (z ≤ℤ pos 127) → to_z w8 (of_z w8 (to_z w16 (of_z w16 z))) ≡ z
byte_is z p =
    let g : SFits w16 z = fits_range z (omega (arith, ints)) (omega (arith, ints)) in
    ap (λ (y : ℤ). to_z w8 (of_z w8 y)) (to_z-of_z w16 z g) ∙ to_z-of_z w8 z (byte_fits z p.0 p.1)

-- the lanes of two vectors
pub fore : (n : ℕ) (xs ys : List ℕ) → length xs ≡ n → (k : ℕ) → k < n → get_or (xs ++ ys) k 0 ≡ get_or xs k 0
fore n xs ys long k h = front xs ys k (omega arith)

pub back : (xs ys : List ℕ) → length xs ≡ 8 → (k : ℕ) → get_or (xs ++ ys) (8 + k) 0 ≡ get_or ys k 0
back xs ys long k = search (rules, places)

lane_kept : (xs : List ℤ) (k : ℕ) → lane (map (to_z w8) (map (of_z w8) xs)) k ≡ to_z w8 (of_z w8 (lane xs k))
lane_kept [] k = refl
lane_kept (x ∷ xs) zero = refl
lane_kept (x ∷ xs) (suc k) = lane_kept xs k

-- lanes of signed bytes, passed on
pub byte_kept : (xs : List ℤ) (k : ℕ) (z y : ℤ) → lane xs k ≡ z → (negsuc 127 ≤ℤ z) × (z ≤ℤ pos 127) → y ≡ z → lane (map (to_z w8) (map (of_z w8) xs)) k ≡ y
byte_kept xs k z y e p f = lane_kept xs k ∙ ap (λ (x : ℤ). to_z w8 (of_z w8 x)) e ∙ to_z-of_z w8 z (byte_fits z p.0 p.1) ∙ sym f

-- six numbers that a list has
pub six_of : (w : List ℤ) (a b c d e f : ℤ) → length w ≡ 6 → a ≡ lane w 0 → b ≡ lane w 1 → c ≡ lane w 2 → d ≡ lane w 3 → e ≡ lane w 4 → f ≡ lane w 5
    → a ∷ b ∷ c ∷ d ∷ e ∷ f ∷ [] ≡ w
six_of (u ∷ v ∷ x ∷ y ∷ z ∷ t ∷ []) a b c d e f long pa pb pc pd pe pf = cc
six_of [] a b c d e f long pa pb pc pd pe pf = absurd (omega (arith, long))
six_of (u ∷ []) a b c d e f long pa pb pc pd pe pf = absurd (omega (arith, long))
six_of (u ∷ v ∷ []) a b c d e f long pa pb pc pd pe pf = absurd (omega (arith, long))
six_of (u ∷ v ∷ x ∷ []) a b c d e f long pa pb pc pd pe pf = absurd (omega (arith, long))
six_of (u ∷ v ∷ x ∷ y ∷ []) a b c d e f long pa pb pc pd pe pf = absurd (omega (arith, long))
six_of (u ∷ v ∷ x ∷ y ∷ z ∷ []) a b c d e f long pa pb pc pd pe pf = absurd (omega (arith, long))
six_of (u ∷ v ∷ x ∷ y ∷ z ∷ t ∷ s ∷ r) a b c d e f long pa pb pc pd pe pf = absurd (omega (arith, long))
