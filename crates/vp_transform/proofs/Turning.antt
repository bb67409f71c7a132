-- Two blocks by turns in vectors of i16, from step to step of their transforms.
use Rattle.std.proofs.Common.{◌≡◌, ℕ, zero, suc, ◌+◌, ◌*◌, ◌<◌, ◌≤◌, ℤ, pos, ◌+ℤ◌, ◌-ℤ◌, ◌*ℤ◌, List, map, lit<, ap, sym, subst, ◌∙◌, refl, arith, replicate, to_z}
use Rattle.std.proofs.lemmas.Int.{ints}
use Rattle.vp_lanes.specs.Lane.{lane}
use Rattle.vp_lanes.proofs.Signed.{IsShort, Signed, signed_splat, stands_pos, signed_add, signed_shr, signed_out}
use lib.Lanes.{zip2}
use mir.Syntax.{w16, signed, shr, wrap_add}
use borrow.Rule.Simd.Lanes.{act2}
use borrow.Table.Row.{s_int}
use Rattle.vp_transform.specs.Fits.{EachWithin}
use Rattle.vp_transform.specs.Narrow.{column_of}
use Rattle.vp_transform.specs.Pair.{row_in, even_block, odd_block, transposed}
use Rattle.vp_transform.specs.Transform.{element_at, block_from, scaled, turned, rounded, column_turned, vertical, horizontal, idct}
use Rattle.vp_transform.proofs.Along.{get, columns_along}
use Rattle.vp_transform.proofs.Bounds.{at_most, each-block_of}
use Rattle.vp_transform.proofs.Mixing.{transposed-within}
use Rattle.vp_transform.proofs.Sizes.{AtMost, sum-at_most, difference-at_most, times-at_most, shr_16-at_most, rounded-at_most, more-at_most}
use Rattle.vp_transform.proofs.Vectors.{sixteen}
use Rattle.vp_transform.proofs.Eights.{handed16, passed16, below_eight}
use lib.Signed.{shr_z as floor_div}

-- ---- how large the numbers get
pub short-at_most : {n : ℕ} {z : ℤ} → AtMost n z → n ≤ 32767 → IsShort z
short-at_most h l = (omega (arith, ints, h.size), omega (arith, ints, h.size))

pub scaled-within : (k n m : ℕ) {z : ℤ} → n * k ≤ 65536 * m → AtMost n z → AtMost m (scaled z k)
scaled-within k n m {z} l h = record { size = shr_16-at_most (z *ℤ pos k) m (let s = (times-at_most k h).size in omega (arith, l, s)) }

-- of four numbers of at most n, of which sine and cosine make numbers of at most s and c
module _ (n s c : ℕ) (ls : n * 35468 ≤ 65536 * s) (lc : n * 20091 ≤ 65536 * c) {i0 i1 i2 i3 : ℤ} (h0 : AtMost n i0) (h1 : AtMost n i1) (h2 : AtMost n i2) (h3 : AtMost n i3) where
  abbrev pub total : ℕ
  total = n + n + (n + c + s)

  pub odd_difference : AtMost (n + c + s) (scaled i1 35468 -ℤ (i3 +ℤ scaled i3 20091))
  odd_difference = more-at_most (difference-at_most (scaled-within 35468 n s ls h1) (sum-at_most h3 (scaled-within 20091 n c lc h3))) (omega arith)

  pub odd_sum : AtMost (n + c + s) ((i1 +ℤ scaled i1 20091) +ℤ scaled i3 35468)
  odd_sum = sum-at_most (sum-at_most h1 (scaled-within 20091 n c lc h1)) (scaled-within 35468 n s ls h3)

  pub turned-within : (k : ℕ) → AtMost total (get (turned i0 i1 i2 i3) k)
  turned-within zero = sum-at_most (sum-at_most h0 h2) odd_sum
  turned-within (suc zero) = sum-at_most (difference-at_most h0 h2) odd_difference
  turned-within (suc (suc zero)) = difference-at_most (difference-at_most h0 h2) odd_difference
  turned-within (suc (suc (suc zero))) = difference-at_most (sum-at_most h0 h2) odd_sum
  turned-within (suc (suc (suc (suc k)))) = record { size = omega arith }

pub vertical-within : (n s c : ℕ) → n * 35468 ≤ 65536 * s → n * 20091 ≤ 65536 * c → (x : List ℤ) → EachWithin n x → EachWithin (n + n + (n + c + s)) (vertical x)
unfolding vertical
vertical-within n s c ls lc x w =
    each-block_of (n + n + (n + c + s)) (λ r j. get (column_turned x j) r)
    (λ r j. turned-within n s c ls lc (at_most n x w _) (at_most n x w _) (at_most n x w _) (at_most n x w _) r)

-- each number that the transform of four numbers computes is an i16
pub record TurnIsShort (i0 i1 i2 i3 : ℤ) : Type 0 where
  pub a : IsShort (i0 +ℤ i2)
  pub b : IsShort (i0 -ℤ i2)
  pub grown_1 : IsShort (i1 +ℤ scaled i1 20091)
  pub grown_3 : IsShort (i3 +ℤ scaled i3 20091)
  pub c : IsShort (scaled i1 35468 -ℤ (i3 +ℤ scaled i3 20091))
  pub d : IsShort ((i1 +ℤ scaled i1 20091) +ℤ scaled i3 35468)
  pub first : IsShort ((i0 +ℤ i2) +ℤ ((i1 +ℤ scaled i1 20091) +ℤ scaled i3 35468))
  pub second : IsShort ((i0 -ℤ i2) +ℤ (scaled i1 35468 -ℤ (i3 +ℤ scaled i3 20091)))
  pub third : IsShort ((i0 -ℤ i2) -ℤ (scaled i1 35468 -ℤ (i3 +ℤ scaled i3 20091)))
  pub fourth : IsShort ((i0 +ℤ i2) -ℤ ((i1 +ℤ scaled i1 20091) +ℤ scaled i3 35468))

pub turn_is_short : {i0 i1 i2 i3 : ℤ} → AtMost 8466 i0 → AtMost 8466 i1 → AtMost 8466 i2 → AtMost 8466 i3 → TurnIsShort i0 i1 i2 i3
turn_is_short h0 h1 h2 h3 =
    let ls : 8466 * 35468 ≤ 65536 * 4582 = omega arith in
    let lc : 8466 * 20091 ≤ 65536 * 2596 = omega arith in
    record {
      a = short-at_most (sum-at_most h0 h2) (omega arith);
      b = short-at_most (difference-at_most h0 h2) (omega arith);
      grown_1 = short-at_most (sum-at_most h1 (scaled-within 20091 8466 2596 lc h1)) (omega arith);
      grown_3 = short-at_most (sum-at_most h3 (scaled-within 20091 8466 2596 lc h3)) (omega arith);
      c = short-at_most (odd_difference 8466 4582 2596 ls lc h0 h1 h2 h3) (omega arith);
      d = short-at_most (odd_sum 8466 4582 2596 ls lc h0 h1 h2 h3) (omega arith);
      first = short-at_most (turned-within 8466 4582 2596 ls lc h0 h1 h2 h3 0) (omega arith);
      second = short-at_most (turned-within 8466 4582 2596 ls lc h0 h1 h2 h3 1) (omega arith);
      third = short-at_most (turned-within 8466 4582 2596 ls lc h0 h1 h2 h3 2) (omega arith);
      fourth = short-at_most (turned-within 8466 4582 2596 ls lc h0 h1 h2 h3 3) (omega arith);
    }

-- twice the number times half the factor
pub twice_half : (z : ℤ) → scaled (z +ℤ z) 17734 ≡ scaled z 35468
twice_half z = ap (λ v. floor_div v 65536) (let e : (z +ℤ z) *ℤ pos 17734 ≡ z *ℤ pos 35468 = omega (arith, ints) in e)

-- ---- the lanes of vectors that hold two blocks
module _ (n : ℕ) (a b c d : List ℤ) (w : EachWithin n (even_block a b c d)) (v : EachWithin n (odd_block a b c d)) where
  pub lanes_a : (j : ℕ) → j < 8 → AtMost n (lane a j)
  lanes_a = below_eight (λ j. AtMost n (lane a j)) (record { size = w 0 }) (record { size = v 0 }) (record { size = w 1 }) (record { size = v 1 })
      (record { size = w 2 }) (record { size = v 2 }) (record { size = w 3 }) (record { size = v 3 })

  pub lanes_b : (j : ℕ) → j < 8 → AtMost n (lane b j)
  lanes_b = below_eight (λ j. AtMost n (lane b j)) (record { size = w 4 }) (record { size = v 4 }) (record { size = w 5 }) (record { size = v 5 })
      (record { size = w 6 }) (record { size = v 6 }) (record { size = w 7 }) (record { size = v 7 })

  pub lanes_c : (j : ℕ) → j < 8 → AtMost n (lane c j)
  lanes_c = below_eight (λ j. AtMost n (lane c j)) (record { size = w 8 }) (record { size = v 8 }) (record { size = w 9 }) (record { size = v 9 })
      (record { size = w 10 }) (record { size = v 10 }) (record { size = w 11 }) (record { size = v 11 })

  pub lanes_d : (j : ℕ) → j < 8 → AtMost n (lane d j)
  lanes_d = below_eight (λ j. AtMost n (lane d j)) (record { size = w 12 }) (record { size = v 12 }) (record { size = w 13 }) (record { size = v 13 })
      (record { size = w 14 }) (record { size = v 14 }) (record { size = w 15 }) (record { size = v 15 })

pub even_turned : (a b c d v0 v1 v2 v3 : List ℤ) → ((j : ℕ) → j < 8 → column_of v0 v1 v2 v3 j ≡ turned (lane a j) (lane b j) (lane c j) (lane d j))
    → even_block v0 v1 v2 v3 ≡ vertical (even_block a b c d)
unfolding vertical
even_turned a b c d v0 v1 v2 v3 e = columns_along (e 0 (lit< tt)) (e 2 (lit< tt)) (e 4 (lit< tt)) (e 6 (lit< tt))

pub odd_turned : (a b c d v0 v1 v2 v3 : List ℤ) → ((j : ℕ) → j < 8 → column_of v0 v1 v2 v3 j ≡ turned (lane a j) (lane b j) (lane c j) (lane d j))
    → odd_block v0 v1 v2 v3 ≡ vertical (odd_block a b c d)
unfolding vertical
odd_turned a b c d v0 v1 v2 v3 e = columns_along (e 1 (lit< tt)) (e 3 (lit< tt)) (e 5 (lit< tt)) (e 7 (lit< tt))

pub rounded_lane : (z : List ℤ) {xs : List ℕ} → Signed 8 (lane z) xs → ((j : ℕ) → j < 8 → AtMost 32763 (lane z j)) → (j : ℕ) → j < 8
    → lane (map (to_z w16) (zip2 (act2 (shr signed) (s_int w16) (s_int w16) (s_int w16)) (zip2 (act2 wrap_add (s_int w16) (s_int w16) (s_int w16)) xs (replicate 8 4)) (replicate 8 3))) j ≡ rounded (lane z j)
rounded_lane z p w j h =
    let s = signed_add p (signed_splat 8 4 (pos 4) (stands_pos 4 (omega arith))) (λ i k. let r = (w i k).size in (omega (arith, ints), omega (arith, ints))) in
    signed_out (signed_shr s 3) j h

module _ (a b c d v0 v1 v2 v3 : List ℤ) (e : (j : ℕ) → j < 8 → lane v0 j ≡ rounded (lane a j)) (f : (j : ℕ) → j < 8 → lane v1 j ≡ rounded (lane b j))
    (g : (j : ℕ) → j < 8 → lane v2 j ≡ rounded (lane c j)) (h : (j : ℕ) → j < 8 → lane v3 j ≡ rounded (lane d j)) where
  pub even_rounded : even_block v0 v1 v2 v3 ≡ map (λ z. rounded z) (even_block a b c d)
  even_rounded =
      sixteen (e 0 (lit< tt)) (e 2 (lit< tt)) (e 4 (lit< tt)) (e 6 (lit< tt)) (f 0 (lit< tt)) (f 2 (lit< tt)) (f 4 (lit< tt)) (f 6 (lit< tt))
      (g 0 (lit< tt)) (g 2 (lit< tt)) (g 4 (lit< tt)) (g 6 (lit< tt)) (h 0 (lit< tt)) (h 2 (lit< tt)) (h 4 (lit< tt)) (h 6 (lit< tt))

  pub odd_rounded : odd_block v0 v1 v2 v3 ≡ map (λ z. rounded z) (odd_block a b c d)
  odd_rounded =
      sixteen (e 1 (lit< tt)) (e 3 (lit< tt)) (e 5 (lit< tt)) (e 7 (lit< tt)) (f 1 (lit< tt)) (f 3 (lit< tt)) (f 5 (lit< tt)) (f 7 (lit< tt))
      (g 1 (lit< tt)) (g 3 (lit< tt)) (g 5 (lit< tt)) (g 7 (lit< tt)) (h 1 (lit< tt)) (h 3 (lit< tt)) (h 5 (lit< tt)) (h 7 (lit< tt))

-- ---- two blocks that one call gave and the next is passed: they are x and y
pub record Pair (n : ℕ) (x y a b c d : List ℤ) : Type 0 where
  pub even : even_block (handed16 a) (handed16 b) (handed16 c) (handed16 d) ≡ x
  pub odd : odd_block (handed16 a) (handed16 b) (handed16 c) (handed16 d) ≡ y
  pub within_x : EachWithin n x
  pub within_y : EachWithin n y

module _ (n : ℕ) (a b c d : List ℤ) (l : n < 32768) (w : EachWithin n (even_block a b c d)) (v : EachWithin n (odd_block a b c d)) where
  pa : (j : ℕ) → j < 8 → lane (handed16 a) j ≡ lane a j
  pa j h = passed16 a j n l (lanes_a n a b c d w v j h).size

  pb : (j : ℕ) → j < 8 → lane (handed16 b) j ≡ lane b j
  pb j h = passed16 b j n l (lanes_b n a b c d w v j h).size

  pc : (j : ℕ) → j < 8 → lane (handed16 c) j ≡ lane c j
  pc j h = passed16 c j n l (lanes_c n a b c d w v j h).size

  pd : (j : ℕ) → j < 8 → lane (handed16 d) j ≡ lane d j
  pd j h = passed16 d j n l (lanes_d n a b c d w v j h).size

  even_handed : even_block (handed16 a) (handed16 b) (handed16 c) (handed16 d) ≡ even_block a b c d
  even_handed =
      sixteen (pa 0 (lit< tt)) (pa 2 (lit< tt)) (pa 4 (lit< tt)) (pa 6 (lit< tt)) (pb 0 (lit< tt)) (pb 2 (lit< tt)) (pb 4 (lit< tt)) (pb 6 (lit< tt))
      (pc 0 (lit< tt)) (pc 2 (lit< tt)) (pc 4 (lit< tt)) (pc 6 (lit< tt)) (pd 0 (lit< tt)) (pd 2 (lit< tt)) (pd 4 (lit< tt)) (pd 6 (lit< tt))

  odd_handed : odd_block (handed16 a) (handed16 b) (handed16 c) (handed16 d) ≡ odd_block a b c d
  odd_handed =
      sixteen (pa 1 (lit< tt)) (pa 3 (lit< tt)) (pa 5 (lit< tt)) (pa 7 (lit< tt)) (pb 1 (lit< tt)) (pb 3 (lit< tt)) (pb 5 (lit< tt)) (pb 7 (lit< tt))
      (pc 1 (lit< tt)) (pc 3 (lit< tt)) (pc 5 (lit< tt)) (pc 7 (lit< tt)) (pd 1 (lit< tt)) (pd 3 (lit< tt)) (pd 5 (lit< tt)) (pd 7 (lit< tt))

pub pair : (n : ℕ) (a b c d : List ℤ) {x y : List ℤ} → n < 32768 → even_block a b c d ≡ x → odd_block a b c d ≡ y → EachWithin n x → EachWithin n y → Pair n x y a b c d
pair n a b c d {x} {y} l e f w v =
    let evens : EachWithin n (even_block a b c d) = subst (λ u. EachWithin n u) (sym e) w in
    let odds : EachWithin n (odd_block a b c d) = subst (λ u. EachWithin n u) (sym f) v in
    record { even = even_handed n a b c d l evens odds ∙ e; odd = odd_handed n a b c d l evens odds ∙ f; within_x = w; within_y = v }

-- .. so they meet what the next call asks
module _ {m : ℕ} (n : ℕ) {x y a b c d : List ℤ} (l : m ≤ n) (p : Pair m x y a b c d) where
  pub even-within : EachWithin n (even_block (handed16 a) (handed16 b) (handed16 c) (handed16 d))
  even-within = subst (λ u. EachWithin n u) (sym p.even) (λ k. let w = p.within_x k in omega (arith, w))

  pub odd-within : EachWithin n (odd_block (handed16 a) (handed16 b) (handed16 c) (handed16 d))
  odd-within = subst (λ u. EachWithin n u) (sym p.odd) (λ k. let w = p.within_y k in omega (arith, w))

-- ---- the steps
abbrev pub all_rounded : List ℤ → List ℤ
all_rounded x = block_from (λ r c. rounded (element_at x r c))

rounded-within : (n : ℕ) (x : List ℤ) → EachWithin (8 * n) x → EachWithin n (all_rounded x)
rounded-within n x w = each-block_of n (λ r c. rounded (element_at x r c)) (λ r c. rounded-at_most (element_at x r c) 4 n (omega arith) (at_most (8 * n) x w _))

module _ {n : ℕ} {x y a b c d : List ℤ} (p : Pair n x y a b c d) (v0 v1 v2 v3 : List ℤ) where
  pub turned_pair : (s o : ℕ) → n * 35468 ≤ 65536 * s → n * 20091 ≤ 65536 * o → n + n + (n + o + s) < 32768
      → even_block v0 v1 v2 v3 ≡ vertical (even_block (handed16 a) (handed16 b) (handed16 c) (handed16 d))
      → odd_block v0 v1 v2 v3 ≡ vertical (odd_block (handed16 a) (handed16 b) (handed16 c) (handed16 d))
      → Pair (n + n + (n + o + s)) (vertical x) (vertical y) v0 v1 v2 v3
  turned_pair s o ls lo l e f =
      pair (n + n + (n + o + s)) v0 v1 v2 v3 l (e ∙ ap (λ u. vertical u) p.even) (f ∙ ap (λ u. vertical u) p.odd)
      (vertical-within n s o ls lo x p.within_x) (vertical-within n s o ls lo y p.within_y)

  pub crossed_pair : n < 32768
      → even_block v0 v1 v2 v3 ≡ transposed (even_block (handed16 a) (handed16 b) (handed16 c) (handed16 d))
      → odd_block v0 v1 v2 v3 ≡ transposed (odd_block (handed16 a) (handed16 b) (handed16 c) (handed16 d))
      → Pair n (transposed x) (transposed y) v0 v1 v2 v3
  crossed_pair l e f =
      pair n v0 v1 v2 v3 l (e ∙ ap (λ u. transposed u) p.even) (f ∙ ap (λ u. transposed u) p.odd)
      (transposed-within n x p.within_x) (transposed-within n y p.within_y)

pub rounded_pair : (n : ℕ) {x y a b c d : List ℤ} → Pair (8 * n) x y a b c d → (v0 v1 v2 v3 : List ℤ) → n < 32768
    → even_block v0 v1 v2 v3 ≡ map (λ z. rounded z) (even_block (handed16 a) (handed16 b) (handed16 c) (handed16 d))
    → odd_block v0 v1 v2 v3 ≡ map (λ z. rounded z) (odd_block (handed16 a) (handed16 b) (handed16 c) (handed16 d))
    → Pair n (all_rounded x) (all_rounded y) v0 v1 v2 v3
rounded_pair n {x} {y} p v0 v1 v2 v3 l e f =
    pair n v0 v1 v2 v3 l (e ∙ ap (λ u. all_rounded u) p.even) (f ∙ ap (λ u. all_rounded u) p.odd)
    (rounded-within n x p.within_x) (rounded-within n y p.within_y)

pub row_of_both : (r : ℕ) {x y a b c d : List ℤ} {n : ℕ} → Pair n x y a b c d
    → row_in (transposed (even_block (handed16 a) (handed16 b) (handed16 c) (handed16 d))) (transposed (odd_block (handed16 a) (handed16 b) (handed16 c) (handed16 d))) r
    ≡ row_in (transposed x) (transposed y) r
row_of_both r {x} {y} {a} {b} {c} {d} p =
    ap (λ u. row_in (transposed u) (transposed (odd_block (handed16 a) (handed16 b) (handed16 c) (handed16 d))) r) p.even
    ∙ ap (λ u. row_in (transposed x) (transposed u) r) p.odd

-- all of them
pub idct_in_steps : (x : List ℤ) → transposed (all_rounded (vertical (transposed (vertical x)))) ≡ idct x
unfolding idct horizontal vertical
idct_in_steps x = refl

pub rows_are : (r : ℕ) (x y : List ℤ) → row_in (transposed (all_rounded (vertical (transposed (vertical x))))) (transposed (all_rounded (vertical (transposed (vertical y))))) r ≡ row_in (idct x) (idct y) r
rows_are r x y =
    ap (λ u. row_in u (transposed (all_rounded (vertical (transposed (vertical y))))) r) (idct_in_steps x) ∙ ap (λ u. row_in (idct x) u r) (idct_in_steps y)
