-- Quantisation in lanes: division by a reciprocal, magnitudes, and signs.
use Rattle.std.proofs.Common.{w64, inl, inr, set, length-set, get_or-set_same, get_or-set_other, T, Fits, ◌^◌, replicate, ◌≡◌, ◌≢◌, ◌∙◌, ℕ, zero, suc, ◌+◌, ◌-◌, ◌*◌, ◌/◌, ◌%◌, ◌<◌, ◌≤◌, ◌==◌, min, ℤ, pos, negsuc, neg_ℤ, ◌-ℤ◌, Bool, true, false, cond, if◌then◌else◌, List, [], ◌∷◌, length, map, get_or, refl, ap, sym, subst, to_z, of_z, w16, unsigned_abs, arith}
use Rattle.std.proofs.Math.Nat.{mul-le-mul, mul-le-mul_left, mul-le-mul_right, div-le_self}
use Rattle.std.proofs.lemmas.Bool.{eqb-true, eq-eqb}
use Rattle.std.proofs.lemmas.Simd.{mask_l-mod}
use Rattle.std.proofs.lemmas.Bool.{cases_lt}
use Rattle.std.proofs.lemmas.List.{get_or_past}
use Rattle.std.specs.List.{range_with_len}
use Rattle.vp_quant.proofs.Places.{set_within}
use Rattle.std.proofs.lemmas.Int.{ints, to_z-of_z}
use Rattle.std.proofs.lemmas.Nat.{div-add-mod', mod_below, div_below, le-div}
use Rattle.std.specs.Prelude.{int_lt}
use lib.Dec.{ltb, eqb}
use lib.Lanes.{sel_l, top, zip2, mask_l, Each1}
use lib.Signed.{lt_z, non_neg}
use mir.Syntax.{signed, unsigned, cast, lt, mask, wrap_add, wrap_sub}
use mir.Val.{SFits}
use borrow.Author.Tests.{lt-ltb}
use borrow.Rule.Simd.Lanes.{act1, act2, Asks1}
use borrow.Table.Row.{s_int}
use Rattle.vp_lanes.specs.Lane.{lane}
use Rattle.vp_lanes.proofs.Shape.{ByLane, lanes_of, lane_is, selected, mapped, zipped, splatted, each_lane, length-ByLane}
use Rattle.vp_lanes.proofs.Signed.{Signed, Stands, stands_of, stands_pos, stands_pick, signed_splat, signed_sub, signed_out}
use Rattle.vp_quant.proofs.Sixteen.{all_set, set_all, map_same, short_fits}
use Rattle.vp_quant.specs.Level.{quantised}
use Rattle.vp_tables.specs.Tables.{zigzag}

-- ---- division: l is the quotient n / f or one less
low_at_most : (n f r l : ℕ) → r * f ≤ 65535 → l * 65536 ≤ n * r → l * f ≤ n
low_at_most n f r l h k =
    let a : l * 65536 * f ≤ n * r * f = mul-le-mul_right f k in
    let b : n * (r * f) ≤ n * 65535 = mul-le-mul_left n h in
    omega arith

low_near : (n f r l : ℕ) → 1 ≤ f → n < 65536 → 65536 ≤ r * f + f → n * r + 1 ≤ (l + 1) * 65536 → n < (l + 2) * f
low_near n f r l some small h k =
    let a : (n * r + 1) * f ≤ (l + 1) * 65536 * f = mul-le-mul_right f k in
    let b : n * 65536 ≤ n * (r * f + f) = mul-le-mul_left n h in
    let e : n * f ≤ 65535 * f = mul-le-mul_right f (let s : n ≤ 65535 = omega arith in s) in
    omega arith

pub one_top16 : (s : Bool) → top 15 (cond s 65535 0) ≡ s
one_top16 true = refl
one_top16 false = refl

quotient_at : (n f l : ℕ) → 1 ≤ f → l * f ≤ n → n < (l + 1) * f → n / f ≡ l
quotient_at n f l some h k =
    let a : n / f < l + 1 = div_below n f (l + 1) some k in
    let b : l ≤ n / f = le-div l n f some h in
    omega arith

chosen : (n f l : ℕ) → 1 ≤ f → l * f ≤ n → n < (l + 2) * f → cond (ltb (n - l * f) f) l (l + 1) ≡ n / f
chosen n f l some h k = elim_by (ltb (n - l * f) f) refl
  where
    elim_by : (t : Bool) → ltb (n - l * f) f ≡ t → cond t l (l + 1) ≡ n / f
    elim_by true e =
        let less : n - l * f < f = grind arith in
        sym (quotient_at n f l some h (omega arith))
    elim_by false e =
        let more : f ≤ n - l * f = grind arith in
        sym (quotient_at n f (l + 1) some (omega arith) (omega arith))

pub quotient_is : (n f l : ℕ) → n < 65536 → 1 ≤ f → f < 65536 → l ≡ n * (65535 / f) / 65536
    → cond (top 15 (cond (ltb ((n + (65536 - l * f % 65536)) % 65536) f) 65535 0)) l ((l + 1) % 65536) ≡ n / f
quotient_is n f l small some bound e =
    let r : ℕ = 65535 / f in
    let whole : 65535 / f * f + 65535 % f ≡ 65535 = div-add-mod' 65535 f in
    let rest : 65535 % f < f = mod_below 65535 f some in
    let product : n * (65535 / f) / 65536 * 65536 + n * (65535 / f) % 65536 ≡ n * (65535 / f) = div-add-mod' (n * (65535 / f)) 65536 in
    let part : n * (65535 / f) % 65536 < 65536 = mod_below (n * (65535 / f)) 65536 (omega arith) in
    let low : l * f ≤ n = low_at_most n f (65535 / f) l (omega arith) (omega arith) in
    let near : n < (l + 2) * f = low_near n f (65535 / f) l some small (omega arith) (omega arith) in
    let times : l * 1 ≤ l * f = mul-le-mul_left l some in
    let left : (n + (65536 - l * f % 65536)) % 65536 ≡ n - l * f = omega arith in
    let most : n * (65535 / f) ≤ n * 65535 = mul-le-mul_left n (let d : 65535 / f ≤ 65535 = div-le_self 65535 f in d) in
    let next : (l + 1) % 65536 ≡ l + 1 = omega arith in
    ap (λ (t : Bool). cond t l ((l + 1) % 65536)) (one_top16 (ltb ((n + (65536 - l * f % 65536)) % 65536) f))
    ∙ ap (λ (k : ℕ). cond (ltb k f) l ((l + 1) % 65536)) left
    ∙ ap (λ (k : ℕ). cond (ltb (n - l * f) f) l k) next
    ∙ chosen n f l some low near

-- ---- the high half of a product
pub high_is : (x k : ℕ) → x < 65536 → k < 65536 → x * k % 4294967296 / 65536 ≡ x * k / 65536
high_is x k p q =
    let m : x * k ≤ 65535 * 65535 = mul-le-mul (let s : x ≤ 65535 = omega arith in s) (let s : k ≤ 65535 = omega arith in s) in
    let e : x * k % 4294967296 ≡ x * k = omega arith in
    ap (λ n. n / 65536) e

pub high_fits : (n : ℕ) → n % 4294967296 / 65536 < 65536
high_fits n = omega arith

-- ---- lanes of which one or the other is taken
module _ {n : ℕ} {M : ℕ → Bool} {Z Y : ℕ → ℤ} {ms : List Bool} {xs ys : List ℕ} (m : ByLane n M ms) (p : Signed n Z xs) (q : Signed n Y ys) where
  pub signed_pick : Signed n (λ k. cond (M k) (Z k) (Y k)) (sel_l ms xs ys)
  signed_pick =
      let e = selected m (lanes_of 0 n xs p.long) (lanes_of 0 n ys q.long) in
      record {
        long = length-ByLane e;
        at = λ j h. subst (λ k. Stands k (cond (M j) (Z j) (Y j))) (sym (lane_is 0 e j h)) (stands_pick (p.at j h) (q.at j h) (M j));
      }

pub less_is : {m n : ℕ} {a b : ℤ} → Stands m a → Stands n b → top 15 (cond (lt_z (to_z w16 m) (to_z w16 n)) 65535 0) ≡ lt_z a b
less_is {a = a} {b = b} p q = let ea = p.is in let eb = q.is in rw (ea, eb) (one_top16 (lt_z a b))

-- ---- magnitudes
pub magnitude_is : (z : ℤ) → cond (lt_z z (pos 0 -ℤ z)) (pos 0 -ℤ z) z ≡ pos (unsigned_abs z)
magnitude_is (pos zero) = refl
magnitude_is (pos (suc n)) = let e : pos 0 -ℤ pos (suc n) ≡ negsuc n = omega (arith, ints) in rw e refl
magnitude_is (negsuc n) = let e : pos 0 -ℤ negsuc n ≡ pos (suc n) = omega (arith, ints) in rw e refl

pub signed_list : (x : List ℤ) → length x ≡ 16 → ((i : ℕ) → unsigned_abs (get_or x i (pos 0)) ≤ 32767) → Signed 16 (lane x) (map (of_z w16) x)
signed_list x l w =
    let e = mapped (of_z w16) (lanes_of (pos 0) 16 x l) in
    record {
      long = length-ByLane e;
      at = λ j h. subst (λ m. Stands m (lane x j)) (sym (lane_is 0 e j h)) (stands_of (lane x j) (short_fits (lane x j) (w j)));
    }

module _ {n : ℕ} {Z : ℕ → ℤ} {xs : List ℕ} (p : Signed n Z xs) (small : (j : ℕ) → j < n → unsigned_abs (Z j) ≤ 32767) where
  zeros : Signed n (λ _. pos 0) (replicate n 0)
  zeros = signed_splat n 0 (pos 0) (stands_pos 0 (omega arith))

  turned : Signed n (λ k. pos 0 -ℤ Z k) (zip2 (act2 wrap_sub (s_int w16) (s_int w16) (s_int w16)) (replicate n 0) xs)
  turned = signed_sub zeros p (λ j h. let s = small j h in (omega (arith, ints), omega (arith, ints)))

  -- `abs`
  abbrev pub abs_of : List ℕ
  abs_of =
      sel_l (map (top 15) (zip2 (act2 (mask (lt signed)) (s_int w16) (s_int w16) (s_int w16)) xs
      (zip2 (act2 wrap_sub (s_int w16) (s_int w16) (s_int w16)) (replicate n 0) xs)))
      (zip2 (act2 wrap_sub (s_int w16) (s_int w16) (s_int w16)) (replicate n 0) xs) xs

  signs : ByLane n (λ k. top 15 (act2 (mask (lt signed)) (s_int w16) (s_int w16) (s_int w16) (get_or xs k 0) (get_or (zip2 (act2 wrap_sub (s_int w16) (s_int w16) (s_int w16)) (replicate n 0) xs) k 0)))
      (map (top 15) (zip2 (act2 (mask (lt signed)) (s_int w16) (s_int w16) (s_int w16)) xs (zip2 (act2 wrap_sub (s_int w16) (s_int w16) (s_int w16)) (replicate n 0) xs)))
  signs = mapped (top 15) (zipped (act2 (mask (lt signed)) (s_int w16) (s_int w16) (s_int w16)) (lanes_of 0 n xs p.long) (lanes_of 0 n _ turned.long))

  magnitudes : Signed n (λ k. pos (unsigned_abs (Z k))) abs_of
  magnitudes =
      let all = signed_pick signs turned p in
      record {
        long = all.long;
        at = λ j h. subst (λ z. Stands (get_or abs_of j 0) z)
            (ap (λ (t : Bool). cond t (pos 0 -ℤ Z j) (Z j)) (less_is (p.at j h) (turned.at j h)) ∙ magnitude_is (Z j)) (all.at j h);
      }

  pub sizes_fit : Each1 (Asks1 (cast signed unsigned w16) (s_int w16)) abs_of
  sizes_fit = each_lane (Asks1 (cast signed unsigned w16) (s_int w16)) (lanes_of 0 n abs_of magnitudes.long)
      (λ j h. subst (λ (y : ℤ). T (non_neg y) × Fits w16 (unsigned_abs y)) (sym (magnitudes.at j h).is) (let s = small j h in (tt, record { fits = omega arith })))

  pub plain_sizes : (j : ℕ) → j < n → get_or (map (act1 (cast signed unsigned w16) (s_int w16) (s_int w16)) abs_of) j 0 ≡ unsigned_abs (Z j)
  plain_sizes j h =
      lane_is 0 (mapped (act1 (cast signed unsigned w16) (s_int w16) (s_int w16)) (lanes_of 0 n abs_of magnitudes.long)) j h
      ∙ ap (λ (y : ℤ). unsigned_abs y) (magnitudes.at j h).is

  -- .. plus a number
  pub raised_sizes : (k : ℕ) → k ≤ 32767 → (j : ℕ) → j < n
      → get_or (zip2 (act2 wrap_add (s_int w16) (s_int w16) (s_int w16)) (map (act1 (cast signed unsigned w16) (s_int w16) (s_int w16)) abs_of) (replicate n k)) j 0 ≡ unsigned_abs (Z j) + k
  raised_sizes k most j h =
      let s = small j h in
      lane_is 0 (zipped (act2 wrap_add (s_int w16) (s_int w16) (s_int w16)) (mapped (act1 (cast signed unsigned w16) (s_int w16) (s_int w16)) (lanes_of 0 n abs_of magnitudes.long)) (splatted n k)) j h
      ∙ ap (λ (y : ℤ). (unsigned_abs y + k) % 65536) (magnitudes.at j h).is
      ∙ (let e : (unsigned_abs (Z j) + k) % 65536 ≡ unsigned_abs (Z j) + k = omega arith in e)

-- ---- magnitudes with the signs of other lanes
pub limited : (n : ℕ) → cond (top 15 (cond (ltb n 2047) 65535 0)) n 2047 ≡ min n 2047
limited n = ap (λ (t : Bool). cond t n 2047) (one_top16 (ltb n 2047)) ∙ (let e : cond (ltb n 2047) n 2047 ≡ min n 2047 = grind arith in e)

-- `simd_min`
abbrev pub min_of : ℕ → List ℕ → List ℕ
min_of n xs = sel_l (map (top 15) (zip2 (act2 (mask (lt unsigned)) (s_int w16) (s_int w16) (s_int w16)) xs (replicate n 2047))) xs (replicate n 2047)

module _ {n : ℕ} {Z : ℕ → ℤ} {ys : List ℕ} (xs : List ℕ) (p : Signed n Z ys) (long : length xs ≡ n) where
  least : ByLane n (λ k. cond (top 15 (act2 (mask (lt unsigned)) (s_int w16) (s_int w16) (s_int w16) (get_or xs k 0) 2047)) (get_or xs k 0) 2047) (min_of n xs)
  least = selected (mapped (top 15) (zipped (act2 (mask (lt unsigned)) (s_int w16) (s_int w16) (s_int w16)) (lanes_of 0 n xs long) (splatted n 2047))) (lanes_of 0 n xs long) (splatted n 2047)

  pub levels_fit : Each1 (Asks1 (cast unsigned signed w16) (s_int w16)) (min_of n xs)
  levels_fit = each_lane (Asks1 (cast unsigned signed w16) (s_int w16)) least
      (λ j h. subst (λ k. SFits w16 (pos k)) (sym (limited (get_or xs j 0))) (record { sfits = omega arith }))

  abbrev pub levels_of : List ℕ
  levels_of = map (act1 (cast unsigned signed w16) (s_int w16) (s_int w16)) (min_of n xs)

  levels : Signed n (λ k. pos (min (get_or xs k 0) 2047)) levels_of
  levels =
      let e = mapped (act1 (cast unsigned signed w16) (s_int w16) (s_int w16)) least in
      record {
        long = length-ByLane e;
        at = λ j h. subst (λ m. Stands m (pos (min (get_or xs j 0) 2047))) (sym (lane_is 0 e j h ∙ limited (get_or xs j 0))) (stands_pos (min (get_or xs j 0) 2047) (omega arith));
      }

  none : Signed n (λ _. pos 0) (replicate n 0)
  none = signed_splat n 0 (pos 0) (stands_pos 0 (omega arith))

  pub signed_levels : (j : ℕ) → j < n
      → lane (map (to_z w16) (sel_l (map (top 15) (zip2 (act2 (mask (lt signed)) (s_int w16) (s_int w16) (s_int w16)) ys (replicate n 0)))
      (zip2 (act2 wrap_sub (s_int w16) (s_int w16) (s_int w16)) (replicate n 0) levels_of) levels_of)) j
      ≡ cond (int_lt (Z j) (pos 0)) (neg_ℤ (pos (min (get_or xs j 0) 2047))) (pos (min (get_or xs j 0) 2047))
  signed_levels j h =
      let m = mapped (top 15) (zipped (act2 (mask (lt signed)) (s_int w16) (s_int w16) (s_int w16)) (lanes_of 0 n ys p.long) (lanes_of 0 n (replicate n 0) none.long)) in
      let lower = signed_sub none levels (λ j h. (omega (arith, ints), omega (arith, ints))) in
      signed_out (signed_pick m lower levels) j h
      ∙ ap (λ (t : Bool). cond t (pos 0 -ℤ pos (min (get_or xs j 0) 2047)) (pos (min (get_or xs j 0) 2047))) (less_is (p.at j h) (none.at j h))
      ∙ ap (λ (z : ℤ). cond (int_lt (Z j) (pos 0)) z (pos (min (get_or xs j 0) 2047))) (let e : pos 0 -ℤ pos (min (get_or xs j 0) 2047) ≡ neg_ℤ (pos (min (get_or xs j 0) 2047)) = omega (arith, ints) in e)

-- ---- all lanes of a mask
pub all_true : {F : ℕ → Bool} {ms : List Bool} → ByLane 8 F ms → eqb (mask_l ms % 2 ^ 64) 255 ≡ true → (j : ℕ) → j < 8 → F j ≡ true
all_true {ms = ms} e full j h =
    let long : length ms ≡ 8 = length-ByLane e in
    let whole : mask_l ms % 2 ^ 64 ≡ mask_l ms = mask_l-mod ms 64 (omega arith) in
    let all : mask_l ms ≡ 255 = sym whole ∙ eqb-true _ _ full in
    let p : 2 ^ length ms ≡ 256 = ap (λ k. 2 ^ k) long in
    sym (lane_is false e j h) ∙ all_set ms (omega (arith, all, p)) j (omega arith)

pub true_all : {F : ℕ → Bool} {ms : List Bool} → ByLane 8 F ms → ((j : ℕ) → j < 8 → F j ≡ true) → eqb (mask_l ms % 2 ^ 64) 255 ≡ true
true_all {ms = ms} e all =
    let long : length ms ≡ 8 = length-ByLane e in
    let whole : mask_l ms % 2 ^ 64 ≡ mask_l ms = mask_l-mod ms 64 (omega arith) in
    let full = set_all ms (λ j h. let k : j < 8 = omega arith in lane_is false e j k ∙ all j k) in
    let p : 2 ^ length ms ≡ 256 = ap (λ k. 2 ^ k) long in
    let is : mask_l ms ≡ 255 = omega (arith, full, p) in
    eq-eqb _ _ (whole ∙ is)

pub less_from : (n b : ℕ) → top 15 (cond (ltb n b) 65535 0) ≡ true → n < b
less_from n b e = let f : ltb n b ≡ true = sym (one_top16 (ltb n b)) ∙ e in grind arith

pub less_to : (n b : ℕ) → n < b → top 15 (cond (ltb n b) 65535 0) ≡ true
less_to n b h = one_top16 (ltb n b) ∙ lt-ltb n b h

-- ---- the zigzag order, with 0 in place of the first number
module _ (f g : ℕ → ℤ) (same : (k : ℕ) → k < 16 → f k ≡ g k) where
  abbrev pub in_order : List ℤ
  in_order = f 16 ∷ f 1 ∷ f 4 ∷ f 8 ∷ f 5 ∷ f 2 ∷ f 3 ∷ f 6 ∷ f 9 ∷ f 12 ∷ f 13 ∷ f 10 ∷ f 7 ∷ f 11 ∷ f 14 ∷ f 15 ∷ []

  pub ordered_at : (i : ℕ) → i < 16 → i ≢ 0 → lane in_order i ≡ g (zigzag i)
  unfolding zigzag
  ordered_at zero l n = absurd (n refl)
  ordered_at (suc zero) l n = same 1 (omega arith)
  ordered_at (suc (suc zero)) l n = same 4 (omega arith)
  ordered_at (suc (suc (suc zero))) l n = same 8 (omega arith)
  ordered_at (suc (suc (suc (suc zero)))) l n = same 5 (omega arith)
  ordered_at (suc (suc (suc (suc (suc zero))))) l n = same 2 (omega arith)
  ordered_at (suc (suc (suc (suc (suc (suc zero)))))) l n = same 3 (omega arith)
  ordered_at (suc (suc (suc (suc (suc (suc (suc zero))))))) l n = same 6 (omega arith)
  ordered_at (suc (suc (suc (suc (suc (suc (suc (suc zero)))))))) l n = same 9 (omega arith)
  ordered_at (suc (suc (suc (suc (suc (suc (suc (suc (suc zero))))))))) l n = same 12 (omega arith)
  ordered_at (suc (suc (suc (suc (suc (suc (suc (suc (suc (suc zero)))))))))) l n = same 13 (omega arith)
  ordered_at (suc (suc (suc (suc (suc (suc (suc (suc (suc (suc (suc zero))))))))))) l n = same 10 (omega arith)
  ordered_at (suc (suc (suc (suc (suc (suc (suc (suc (suc (suc (suc (suc zero)))))))))))) l n = same 7 (omega arith)
  ordered_at (suc (suc (suc (suc (suc (suc (suc (suc (suc (suc (suc (suc (suc zero))))))))))))) l n = same 11 (omega arith)
  ordered_at (suc (suc (suc (suc (suc (suc (suc (suc (suc (suc (suc (suc (suc (suc zero)))))))))))))) l n = same 14 (omega arith)
  ordered_at (suc (suc (suc (suc (suc (suc (suc (suc (suc (suc (suc (suc (suc (suc (suc zero))))))))))))))) l n = same 15 (omega arith)
  ordered_at (suc (suc (suc (suc (suc (suc (suc (suc (suc (suc (suc (suc (suc (suc (suc (suc i)))))))))))))))) l n = absurd (omega arith)

pub ordered_within : (r x : List ℤ) → lane r 0 ≡ pos 0 → ((i : ℕ) → i < 16 → i ≢ 0 → lane r i ≡ lane x (zigzag i))
    → ((i : ℕ) → unsigned_abs (get_or x i (pos 0)) ≤ 32767) → (j : ℕ) → j < 16 → unsigned_abs (lane r j) ≤ 32767
ordered_within r x first others range zero h = subst (λ z. unsigned_abs z ≤ 32767) (sym first) (omega arith)
ordered_within r x first others range (suc j) h = subst (λ z. unsigned_abs z ≤ 32767) (sym (others (suc j) h (omega arith))) (range (zigzag (suc j)))

-- ---- levels
pub none_quantised : (z : ℤ) (f n : ℕ) → n ≡ unsigned_abs z + f / 2 → n < f → pos 0 ≡ quantised z f
unfolding quantised
none_quantised (pos k) f n e h =
    let q : (k + f / 2) / f ≡ 0 = quotient_at (k + f / 2) f 0 (omega arith) (omega arith) (omega arith) in
    ap (λ m. pos (min m 2047)) (sym q)
none_quantised (negsuc k) f n e h =
    let q : (suc k + f / 2) / f ≡ 0 = quotient_at (suc k + f / 2) f 0 (omega arith) (omega arith) (omega arith) in
    ap (λ m. neg_ℤ (pos (min m 2047))) (sym q)

not_less : (k : ℕ) → int_lt (pos k) (pos 0) ≡ false
not_less k = grind arith

pub level_quantised : (z : ℤ) (f m q : ℕ) → m ≡ unsigned_abs z + f / 2 → q ≡ m / f
    → cond (int_lt z (pos 0)) (neg_ℤ (pos (min q 2047))) (pos (min q 2047)) ≡ quantised z f
unfolding quantised
level_quantised (pos k) f m q e d = ap (λ (t : Bool). cond t (neg_ℤ (pos (min q 2047))) (pos (min q 2047))) (not_less k) ∙ ap (λ n. pos (min n 2047)) (d ∙ ap (λ n. n / f) e)
level_quantised (negsuc k) f m q e d = ap (λ n. neg_ℤ (pos (min n 2047))) (d ∙ ap (λ n. n / f) e)

magnitude-small : (z : ℤ) (f : ℕ) → unsigned_abs (quantised z f) ≤ 2047
unfolding quantised
magnitude-small (pos k) f = omega (arith, ints)
magnitude-small (negsuc k) f = omega (arith, ints)

pub read_short : (z : ℤ) → unsigned_abs z ≤ 32767 → to_z w16 (of_z w16 z) ≡ z
read_short z l = to_z-of_z w16 z (short_fits z l)

wide : (z : ℤ) → unsigned_abs z ≤ 32767 → SFits w64 z
wide (pos n) l = record { sfits = omega arith }
wide (negsuc n) l = record { sfits = omega arith }

pub read_wide : (a z : ℤ) → a ≡ to_z w16 (of_z w16 z) → unsigned_abs z ≤ 32767 → to_z w64 (of_z w64 a) ≡ z
read_wide a z e l = ap (λ (y : ℤ). to_z w64 (of_z w64 y)) (e ∙ read_short z l) ∙ to_z-of_z w64 z (wide z l)

-- ---- a block's levels: the lanes v of the numbers r, which are in zigzag order, and the level of the DC coefficient
module _ (v r x : List ℤ) (z : ℤ) (dc ac : ℕ) (long : length v ≡ 16) (lanes : (j : ℕ) → j < 16 → lane v j ≡ quantised (lane r j) ac) where
  lanes-within : (i : ℕ) → unsigned_abs (get_or v i (pos 0)) ≤ 2047
  lanes-within i = elim (cases_lt i 16) [
    | inl inside ↦ subst (λ (y : ℤ). unsigned_abs y ≤ 2047) (sym (lanes i inside)) (magnitude-small (lane r i) ac)
    | inr outside ↦ subst (λ (y : ℤ). unsigned_abs y ≤ 2047) (sym (get_or_past v i (pos 0) (omega arith))) (omega arith)
  ]

  pub levels-within : unsigned_abs z ≤ 2047 → (i : ℕ) → unsigned_abs (get_or (set v 0 z) i (pos 0)) ≤ 2047
  levels-within small = set_within 2047 v 0 z lanes-within small

  module _ (first : z ≡ quantised (get_or x 0 (pos 0)) dc) (others : (i : ℕ) → i < 16 → i ≢ 0 → lane r i ≡ lane x (zigzag i)) where
    abbrev level_at : ℕ → ℤ
    level_at i = quantised (get_or x (zigzag i) (pos 0)) (if i == 0 then dc else ac)

    each_is : (i : ℕ) → i < 16 → get_or (set v 0 z) i (pos 0) ≡ level_at i
    unfolding zigzag
    each_is zero h = get_or-set_same v 0 z (pos 0) (let l = long in omega arith) ∙ first
    each_is (suc i) h =
        let e : (suc i == 0) ≡ false = grind arith in
        get_or-set_other v 0 (suc i) z (pos 0) (omega arith) ∙ lanes (suc i) h
        ∙ ap (λ (y : ℤ). quantised y ac) (others (suc i) h (omega arith))
        ∙ ap (λ (t : Bool). quantised (get_or x (zigzag (suc i)) (pos 0)) (if t then dc else ac)) (sym e)

    pub levels_are : set v 0 z ≡ map level_at (range_with_len 0 16)
    levels_are =
        (lanes_of (pos 0) 16 (set v 0 z) (length-set v 0 z ∙ long)).is
        ∙ map_same (λ k. get_or (set v 0 z) k (pos 0)) level_at 0 16
        (λ k h. let e : k ≡ 0 + k = omega arith in subst (λ i. get_or (set v 0 z) i (pos 0) ≡ level_at i) e (each_is k h))
