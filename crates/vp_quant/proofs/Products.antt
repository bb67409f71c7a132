-- Products of levels and a factor that is made ready, and the coefficients of one block or of two by turns.
use Rattle.std.proofs.Common.{◌≡◌, ◌∙◌, ℕ, zero, suc, ◌+◌, ◌*◌, ◌/◌, ◌%◌, ◌<◌, ◌≤◌, ◌==◌, min, max, Bool, true, false, if◌then◌else◌, ℤ, pos, negsuc, ◌*ℤ◌, List, [], ◌∷◌, ◌++◌, map, length, lit<, refl, sym, ap, subst, arith, unsigned_abs, slice_index_or, inl, inr, to_z, of_z, w16}
use Rattle.std.proofs.lemmas.Int.{ints, unsigned_abs-mul, to_z-of_z}
use Rattle.std.proofs.lemmas.List.{get_or_past}
use Rattle.std.proofs.lemmas.Bool.{cases_lt}
use Rattle.std.proofs.lemmas.Nat.{le-div}
use Rattle.std.proofs.Math.Nat.{mul-le-mul, div-mul-le_self}
use Rattle.std.specs.List.{range_with_len}
use mir.Val.{SFits}
use Rattle.vp_lanes.specs.Lane.{lane}
use Rattle.vp_lanes.proofs.Shape.{ByLane, lane_is}
use Rattle.vp_quant.specs.Quant.{position_at, coefficient, dequantised}
use Rattle.vp_quant.specs.Short.{IsShortFactor, HasSmallProduct, HasBlock, Four, coefficients_after, in_raster, after_dcs, by_turns}
use Rattle.vp_quant.specs.declared.short.ShortFactor.{ShortFactor}
use Rattle.vp_quant.proofs.Places.{map_within, set_within}
use Rattle.vp_quant.proofs.Sixteen.{sixteen, below_sixteen, read, short_whole}

-- ---- a level times the factor
below_bound : (z : ℤ) (bound factor most : ℕ) → bound ≡ most / max factor 1 + 1 → unsigned_abs z < bound → HasSmallProduct z factor most
below_bound z bound factor most is below =
    let m : unsigned_abs z * max factor 1 ≤ most / max factor 1 * max factor 1 = mul-le-mul (omega arith) (omega arith) in
    omega (arith, m, div-mul-le_self most (max factor 1))

-- .. and the other way round
pub small_below : (f : ShortFactor) (factor most : ℕ) → IsShortFactor f factor most → (z : ℤ) → HasSmallProduct z factor most → unsigned_abs z < f.bound
small_below f factor most is z near =
    let l : unsigned_abs z ≤ most / max factor 1 = le-div (unsigned_abs z) most (max factor 1) (omega arith) near in
    omega (arith, l, is.0)

near_product : (z : ℤ) (factor most : ℕ) → HasSmallProduct z factor most → unsigned_abs (z *ℤ pos factor) ≤ most
near_product z factor most near =
    let m : unsigned_abs z * factor ≤ unsigned_abs z * max factor 1 = mul-le-mul (omega arith) (omega arith) in
    let e : unsigned_abs (z *ℤ pos factor) ≡ unsigned_abs z * factor = unsigned_abs-mul z (pos factor) in
    omega arith

-- A factor above `most` stands beside zeros alone.
held_factor : (n factor most : ℕ) → suc n * max factor 1 ≤ most → min factor most ≡ factor
held_factor n factor most h = omega arith

near_factor : (z : ℤ) (factor most : ℕ) → HasSmallProduct z factor most → z *ℤ pos (min factor most) ≡ z *ℤ pos factor
near_factor (pos zero) factor most near = omega (arith, ints)
near_factor (pos (suc n)) factor most near = ap (λ k. pos (suc n) *ℤ pos k) (held_factor n factor most near)
near_factor (negsuc n) factor most near = ap (λ k. negsuc n *ℤ pos k) (held_factor n factor most near)

module _ (f : ShortFactor) (factor most : ℕ) (is : IsShortFactor f factor most) (z : ℤ) (below : unsigned_abs z < f.bound) where
  small : HasSmallProduct z factor most
  small = below_bound z f.bound factor most is.0 below

  pub held_product : z *ℤ f.factor ≡ z *ℤ pos factor
  held_product = ap (λ (y : ℤ). z *ℤ y) is.1 ∙ near_factor z factor most small

  pub product_within : unsigned_abs (z *ℤ pos factor) ≤ most
  product_within = near_product z factor most small

  pub product_short : unsigned_abs (z *ℤ f.factor) ≤ 32767
  product_short = subst (λ y. unsigned_abs y ≤ 32767) (sym held_product) (omega (arith, product_within, is.2))

pub factor_fits : (f : ShortFactor) (factor most : ℕ) → IsShortFactor f factor most → SFits w16 f.factor
factor_fits f factor most is = subst (λ z. SFits w16 z) (sym is.1) (record { sfits = omega (arith, is.2) })

-- ---- levels v and the factor, which are handed on as u and g, multiplied
module _ (n : ℕ) (f : ShortFactor) (u v : List ℤ) (same : u ≡ v) (below : (j : ℕ) → j < n → unsigned_abs (lane u j) < f.bound) (factor most : ℕ) (is : IsShortFactor f factor most) where
  abbrev g : ℤ
  g = to_z w16 (of_z w16 f.factor)

  by_g : (z : ℤ) → z *ℤ g ≡ z *ℤ f.factor
  by_g z = ap (λ (y : ℤ). z *ℤ y) (to_z-of_z w16 f.factor (factor_fits f factor most is))

  pub products : (w : List ℤ) → (((j : ℕ) → j < n → unsigned_abs (lane u j *ℤ g) ≤ 32767) → (j : ℕ) → j < n → lane w j ≡ lane u j *ℤ g)
      → (j : ℕ) → j < n → lane w j ≡ lane v j *ℤ pos factor
  products w times j h =
      times (λ i k. subst (λ (z : ℤ). unsigned_abs z ≤ 32767) (sym (by_g (lane u i))) (product_short f factor most is (lane u i) (below i k))) j h
      ∙ by_g (lane u j) ∙ held_product f factor most is (lane u j) (below j h) ∙ ap (λ (x : List ℤ). lane x j *ℤ pos factor) same

  pub products_within : (j : ℕ) → j < n → unsigned_abs (lane v j *ℤ pos factor) ≤ most
  products_within j h = subst (λ (x : List ℤ). unsigned_abs (lane x j *ℤ pos factor) ≤ most) same (product_within f factor most is (lane u j) (below j h))

-- ---- the coefficients of a block
module _ (first : ℤ) (levels t : List ℤ) (factor : ℕ) (is : (j : ℕ) → j < 16 → lane t j ≡ lane levels j *ℤ pos factor) where
  pub coefficients_are : in_raster (lane (after_dcs 1 (first ∷ []) t)) ≡ coefficients_after first levels factor
  unfolding dequantised
  coefficients_are =
      sixteen refl (is 1 (lit< tt)) (is 5 (lit< tt)) (is 6 (lit< tt)) (is 2 (lit< tt)) (is 4 (lit< tt)) (is 7 (lit< tt)) (is 12 (lit< tt))
      (is 3 (lit< tt)) (is 8 (lit< tt)) (is 11 (lit< tt)) (is 13 (lit< tt)) (is 9 (lit< tt)) (is 10 (lit< tt)) (is 14 (lit< tt)) (is 15 (lit< tt))

none_or_all : (b : Bool) (z : ℤ) (factor most : ℕ) → unsigned_abs (z *ℤ pos factor) ≤ most → unsigned_abs (z *ℤ pos (if b then 0 else factor)) ≤ most
none_or_all true z factor most h = omega (arith, ints)
none_or_all false z factor most h = h

module _ (first : ℤ) (levels : List ℤ) (factor most : ℕ) (long : length levels ≡ 16) (small : (j : ℕ) → j < 16 → unsigned_abs (lane levels j *ℤ pos factor) ≤ most) where
  level_within : (j : ℕ) → unsigned_abs (lane levels j *ℤ pos factor) ≤ most
  level_within j = elim (cases_lt j 16) [
    | inl inside ↦ small j inside
    | inr outside ↦ subst (λ (z : ℤ). unsigned_abs (z *ℤ pos factor) ≤ most) (sym (get_or_past levels j (pos 0) (omega arith))) (omega (arith, ints))
  ]

  dequantised_within : (i : ℕ) → unsigned_abs (slice_index_or (dequantised levels 0 factor) i (pos 0)) ≤ most
  unfolding dequantised
  dequantised_within =
      map_within most (λ place. coefficient levels 0 factor (position_at place)) (range_with_len 0 16)
      (λ place. none_or_all (position_at place == 0) (lane levels (position_at place)) factor most (level_within (position_at place)))

  pub coefficients_within : unsigned_abs first ≤ most → (i : ℕ) → unsigned_abs (slice_index_or (coefficients_after first levels factor) i (pos 0)) ≤ most
  coefficients_within h = set_within most (dequantised levels 0 factor) 0 first dequantised_within h

-- ---- the levels of two blocks by turns, u as they are handed on
of_either : (P : ℤ → Type 0) (b : Bool) (left right : List ℤ) (i : ℕ) → P (lane left i) → P (lane right i)
    → P (lane (if b then left else right) i)
of_either P true left right i x y = x
of_either P false left right i x y = y

module _ (left right : List ℤ) (short_left : (i : ℕ) → unsigned_abs (slice_index_or left i (pos 0)) ≤ 32767)
    (short_right : (i : ℕ) → unsigned_abs (slice_index_or right i (pos 0)) ≤ 32767) (start : ℕ) (u : List ℤ) (is : u ≡ by_turns left right start) where
  turns_short : (i : ℕ) → unsigned_abs (lane (by_turns left right start) i) ≤ 32767
  turns_short =
      map_within 32767 (λ j. lane (if j % 2 == 0 then left else right) (start + j / 2)) (range_with_len 0 16)
      (λ j. of_either (λ z. unsigned_abs z ≤ 32767) (j % 2 == 0) left right (start + j / 2) (short_left (start + j / 2)) (short_right (start + j / 2)))

  pub turns_handed : read u ≡ by_turns left right start
  turns_handed = ap (λ (v : List ℤ). read v) is ∙ short_whole (by_turns left right start) turns_short

  pub handed_short : (i : ℕ) → unsigned_abs (lane (read u) i) ≤ 32767
  handed_short i = subst (λ (v : List ℤ). unsigned_abs (lane v i) ≤ 32767) (sym turns_handed) (turns_short i)

-- .. below a bound, where the levels of both blocks are
lane_of_map : (f : ℕ → ℤ) (n j : ℕ) → j < n → lane (map f (range_with_len 0 n)) j ≡ f j
lane_of_map f n j h =
    let e : ByLane n f (map f (range_with_len 0 n)) = record { is = refl } in
    lane_is (pos 0) e j h

module _ (left right : List ℤ) (bound : ℕ) (below_left : (i : ℕ) → i < 16 → unsigned_abs (lane left i) < bound)
    (below_right : (i : ℕ) → i < 16 → unsigned_abs (lane right i) < bound) where
  pub turns_below : (start : ℕ) → start ≤ 8 → (j : ℕ) → j < 16 → unsigned_abs (lane (by_turns left right start) j) < bound
  turns_below start early j h =
      let i = start + j / 2 in
      let k : i < 16 = omega arith in
      let at = lane_of_map (λ p. lane (if p % 2 == 0 then left else right) (start + p / 2)) 16 j h in
      subst (λ (z : ℤ). unsigned_abs z < bound) (sym at)
      (of_either (λ z. unsigned_abs z < bound) (j % 2 == 0) left right i (below_left i k) (below_right i k))

-- ---- the coefficients of two blocks: the levels by turns, times the factor, are tu and tl
module _ (left right dcs tu tl : List ℤ) (factor : ℕ) (upper : (j : ℕ) → j < 16 → lane tu j ≡ lane (by_turns left right 0) j *ℤ pos factor)
    (lower : (j : ℕ) → j < 16 → lane tl j ≡ lane (by_turns left right 8) j *ℤ pos factor) where
  pub left_are : in_raster (λ p. lane (after_dcs 2 dcs tu ++ tl) (2 * p)) ≡ coefficients_after (slice_index_or dcs 0 (pos 0)) left factor
  unfolding dequantised
  left_are =
      sixteen refl (upper 2 (lit< tt)) (upper 10 (lit< tt)) (upper 12 (lit< tt)) (upper 4 (lit< tt)) (upper 8 (lit< tt)) (upper 14 (lit< tt)) (lower 8 (lit< tt))
      (upper 6 (lit< tt)) (lower 0 (lit< tt)) (lower 6 (lit< tt)) (lower 10 (lit< tt)) (lower 2 (lit< tt)) (lower 4 (lit< tt)) (lower 12 (lit< tt)) (lower 14 (lit< tt))

  pub right_are : in_raster (λ p. lane (after_dcs 2 dcs tu ++ tl) (2 * p + 1)) ≡ coefficients_after (slice_index_or dcs 1 (pos 0)) right factor
  unfolding dequantised
  right_are =
      sixteen refl (upper 3 (lit< tt)) (upper 11 (lit< tt)) (upper 13 (lit< tt)) (upper 5 (lit< tt)) (upper 9 (lit< tt)) (upper 15 (lit< tt)) (lower 9 (lit< tt))
      (upper 7 (lit< tt)) (lower 1 (lit< tt)) (lower 7 (lit< tt)) (lower 11 (lit< tt)) (lower 3 (lit< tt)) (lower 5 (lit< tt)) (lower 13 (lit< tt)) (lower 15 (lit< tt))

-- .. and each of them is at most `most` in magnitude
module _ (left right : List ℤ) (factor most : ℕ) (upper : (j : ℕ) → j < 16 → unsigned_abs (lane (by_turns left right 0) j *ℤ pos factor) ≤ most)
    (lower : (j : ℕ) → j < 16 → unsigned_abs (lane (by_turns left right 8) j *ℤ pos factor) ≤ most) where
  pub left_within : (p : ℕ) → p < 16 → unsigned_abs (lane left p *ℤ pos factor) ≤ most
  left_within =
      below_sixteen (λ p. unsigned_abs (lane left p *ℤ pos factor) ≤ most) (upper 0 (lit< tt)) (upper 2 (lit< tt)) (upper 4 (lit< tt)) (upper 6 (lit< tt)) (upper 8 (lit< tt)) (upper 10 (lit< tt)) (upper 12 (lit< tt)) (upper 14 (lit< tt))
      (lower 0 (lit< tt)) (lower 2 (lit< tt)) (lower 4 (lit< tt)) (lower 6 (lit< tt)) (lower 8 (lit< tt)) (lower 10 (lit< tt)) (lower 12 (lit< tt)) (lower 14 (lit< tt))

  pub right_within : (p : ℕ) → p < 16 → unsigned_abs (lane right p *ℤ pos factor) ≤ most
  right_within =
      below_sixteen (λ p. unsigned_abs (lane right p *ℤ pos factor) ≤ most) (upper 1 (lit< tt)) (upper 3 (lit< tt)) (upper 5 (lit< tt)) (upper 7 (lit< tt)) (upper 9 (lit< tt)) (upper 11 (lit< tt)) (upper 13 (lit< tt)) (upper 15 (lit< tt))
      (lower 1 (lit< tt)) (lower 3 (lit< tt)) (lower 5 (lit< tt)) (lower 7 (lit< tt)) (lower 9 (lit< tt)) (lower 11 (lit< tt)) (lower 13 (lit< tt)) (lower 15 (lit< tt))

-- ---- the lanes of four rows that hold two blocks
module _ (rows : Four) (most : ℕ) (x y : List ℤ) (has_x : HasBlock rows 0 x) (has_y : HasBlock rows 1 y)
    (small_x : (i : ℕ) → unsigned_abs (slice_index_or x i (pos 0)) ≤ most) (small_y : (i : ℕ) → unsigned_abs (slice_index_or y i (pos 0)) ≤ most) where
  abbrev at_most : ℕ → ℕ → Type 0
  at_most r j = unsigned_abs (lane (slice_index_or (rows.0 ∷ rows.1 ∷ rows.2 ∷ rows.3 ∷ []) r []) j) ≤ most

  in_x : (r c : ℕ) → r < 4 → c < 4 → at_most r (2 * c + 0)
  in_x r c h g = subst (λ (z : ℤ). unsigned_abs z ≤ most) (sym (has_x r c h g)) (small_x (4 * r + c))

  in_y : (r c : ℕ) → r < 4 → c < 4 → at_most r (2 * c + 1)
  in_y r c h g = subst (λ (z : ℤ). unsigned_abs z ≤ most) (sym (has_y r c h g)) (small_y (4 * r + c))

  pub rows_within : (r j : ℕ) → r < 4 → j < 8 → at_most r j
  rows_within r j h g = elim (cases_lt (j % 2) 1) [
    | inl even ↦ subst (λ i. at_most r i) (let e : 2 * (j / 2) + 0 ≡ j = omega arith in e) (in_x r (j / 2) h (omega arith))
    | inr odd ↦ subst (λ i. at_most r i) (let e : 2 * (j / 2) + 1 ≡ j = omega arith in e) (in_y r (j / 2) h (omega arith))
  ]
