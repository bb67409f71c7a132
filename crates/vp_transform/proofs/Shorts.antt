-- The forward DCT of small numbers in vectors of four i16, from step to step.
use Rattle.std.proofs.Common.{inl, inr, ◌≡◌, ℕ, ◌+◌, ◌<◌, ◌≤◌, ℤ, pos, negsuc, ◌+ℤ◌, ◌-ℤ◌, ◌*ℤ◌, List, map, length, lit<, refl, ap, sym, subst, ◌∙◌, arith, unsigned_abs, of_z}
use Rattle.std.proofs.lemmas.Bool.{cases_lt}
use Rattle.std.proofs.lemmas.List.{get_or_past}
use Rattle.std.proofs.lemmas.Int.{ints, to_z-of_z}
use mir.Syntax.{w16}
use mir.Val.{SFits}
use lib.Signed.{shr_z as floor_div}
use Rattle.vp_lanes.specs.Lane.{lane}
use Rattle.vp_lanes.proofs.Shape.{lanes_of, lane_is, mapped, length-ByLane}
use Rattle.vp_lanes.proofs.Signed.{IsShort, Signed, Stands, stands_of, signed_out}
use Rattle.vp_transform.specs.Fits.{EachWithin}
use Rattle.vp_transform.specs.Forward.{row_waves, column_waves, row_pass, column_pass, fdct}
use Rattle.vp_transform.specs.Narrow.{column_of, block_in}
use Rattle.vp_transform.specs.Pair.{transposed}
use Rattle.vp_transform.proofs.Along.{columns_along}
use Rattle.vp_transform.proofs.Eights.{handed16, passed16, coded16, sfits16}
use Rattle.vp_transform.proofs.Known.{multiple-at_most}
use Rattle.vp_transform.proofs.Mixing.{transposed-within}
use Rattle.vp_transform.proofs.Sizes.{AtMost, sum-at_most, difference-at_most, more-at_most}
use Rattle.vp_transform.proofs.Turning.{short-at_most}
use Rattle.vp_transform.proofs.Vectors.{sixteen, short16_fits, within_first, within_second, within_third, within_fourth}
use Rattle.vp_transform.proofs.Waves.{transpose-within, fdct-within}

-- ---- rows that one call gave and the next is passed: they are the block x
pub record Rows (n : ℕ) (x a b c d : List ℤ) : Type 0 where
  pub is : block_in a b c d ≡ x
  pub passed : block_in (handed16 a) (handed16 b) (handed16 c) (handed16 d) ≡ x
  pub within : EachWithin n x

pub rows : (n : ℕ) {x a b c d : List ℤ} → n < 32768 → block_in a b c d ≡ x → EachWithin n x → Rows n x a b c d
rows n {x} {a} {b} {c} {d} l e w =
    let h : EachWithin n (block_in a b c d) = subst (λ v. EachWithin n v) (sym e) w in
    record {
      is = e;
      passed = sixteen (passed16 a 0 n l (h 0)) (passed16 a 1 n l (h 1)) (passed16 a 2 n l (h 2)) (passed16 a 3 n l (h 3))
          (passed16 b 0 n l (h 4)) (passed16 b 1 n l (h 5)) (passed16 b 2 n l (h 6)) (passed16 b 3 n l (h 7))
          (passed16 c 0 n l (h 8)) (passed16 c 1 n l (h 9)) (passed16 c 2 n l (h 10)) (passed16 c 3 n l (h 11))
          (passed16 d 0 n l (h 12)) (passed16 d 1 n l (h 13)) (passed16 d 2 n l (h 14)) (passed16 d 3 n l (h 15)) ∙ e;
      within = w;
    }

pub rows-within : {n : ℕ} {x a b c d : List ℤ} → Rows n x a b c d → EachWithin n (block_in (handed16 a) (handed16 b) (handed16 c) (handed16 d))
rows-within {n} h = subst (λ v. EachWithin n v) (sym h.passed) h.within

-- ---- the steps
pub read_rows : (x a b c d : List ℤ) → EachWithin 255 x → block_in a b c d ≡ transposed x → Rows 255 (transposed x) a b c d
read_rows x a b c d small e = rows 255 (omega arith) e (transposed-within 255 x small)

twice_transposed : (x : List ℤ) → row_pass (transposed (transposed x)) ≡ row_pass x
unfolding row_pass
twice_transposed x = refl

module _ (x : List ℤ) {a b c d : List ℤ} (small : EachWithin 255 x) (h : Rows 255 (transposed x) a b c d) (v0 v1 v2 v3 : List ℤ) where
  pub across_rows : block_in v0 v1 v2 v3 ≡ transposed (row_pass (transposed (block_in (handed16 a) (handed16 b) (handed16 c) (handed16 d))))
      → Rows 8160 (transposed (row_pass x)) v0 v1 v2 v3
  across_rows e =
      rows 8160 (omega arith) (e ∙ ap (λ v. transposed (row_pass (transposed v))) h.passed ∙ ap (λ v. transposed v) (twice_transposed x))
      (transposed-within 8160 (row_pass x) (transpose-within 255 x small))

transposed_back : (x : List ℤ) → transposed (transposed (row_pass x)) ≡ row_pass x
unfolding row_pass
transposed_back x = refl

module _ (x : List ℤ) {a b c d : List ℤ} (small : EachWithin 255 x) (h : Rows 8160 (transposed (row_pass x)) a b c d) (v0 v1 v2 v3 : List ℤ) where
  pub crossed_rows : block_in v0 v1 v2 v3 ≡ transposed (block_in (handed16 a) (handed16 b) (handed16 c) (handed16 d)) → Rows 8160 (row_pass x) v0 v1 v2 v3
  crossed_rows e = rows 8160 (omega arith) (e ∙ ap (λ v. transposed v) h.passed ∙ transposed_back x) (transpose-within 255 x small)

fdct_in_steps : (x : List ℤ) → column_pass (row_pass x) ≡ fdct x
unfolding fdct
fdct_in_steps x = refl

pub down_rows : (x : List ℤ) {a b c d : List ℤ} → EachWithin 255 x → Rows 8160 (row_pass x) a b c d → (v0 v1 v2 v3 : List ℤ)
    → block_in v0 v1 v2 v3 ≡ column_pass (block_in (handed16 a) (handed16 b) (handed16 c) (handed16 d)) → Rows 2040 (fdct x) v0 v1 v2 v3
down_rows x small h v0 v1 v2 v3 e = rows 2040 (omega arith) (e ∙ ap (λ v. column_pass v) h.passed ∙ fdct_in_steps x) (fdct-within 255 x small)

pub across_is : (a b c d v0 v1 v2 v3 : List ℤ) → ((j : ℕ) → j < 4 → column_of v0 v1 v2 v3 j ≡ row_waves (lane a j) (lane b j) (lane c j) (lane d j))
    → block_in v0 v1 v2 v3 ≡ transposed (row_pass (transposed (block_in a b c d)))
unfolding row_pass
across_is a b c d v0 v1 v2 v3 e = columns_along (e 0 (lit< tt)) (e 1 (lit< tt)) (e 2 (lit< tt)) (e 3 (lit< tt))

pub down_is : (a b c d v0 v1 v2 v3 : List ℤ) → ((j : ℕ) → j < 4 → column_of v0 v1 v2 v3 j ≡ column_waves (lane a j) (lane b j) (lane c j) (lane d j))
    → block_in v0 v1 v2 v3 ≡ column_pass (block_in a b c d)
unfolding column_pass
down_is a b c d v0 v1 v2 v3 e = columns_along (e 0 (lit< tt)) (e 1 (lit< tt)) (e 2 (lit< tt)) (e 3 (lit< tt))

-- ---- how large the numbers get
pub record Sums (n : ℕ) (i0 i1 i2 i3 : ℤ) : Type 0 where
  pub a : AtMost (n + n) (i0 +ℤ i3)
  pub b : AtMost (n + n) (i1 +ℤ i2)
  pub c : AtMost (n + n) (i1 -ℤ i2)
  pub d : AtMost (n + n) (i0 -ℤ i3)

pub sums : {n : ℕ} {i0 i1 i2 i3 : ℤ} → AtMost n i0 → AtMost n i1 → AtMost n i2 → AtMost n i3 → Sums n i0 i1 i2 i3
sums h0 h1 h2 h3 = record { a = sum-at_most h0 h3; b = sum-at_most h1 h2; c = difference-at_most h1 h2; d = difference-at_most h0 h3 }

pub lane_sums : (n : ℕ) (a b c d : List ℤ) → EachWithin n (block_in a b c d) → (j : ℕ) → j < 4 → Sums n (lane a j) (lane b j) (lane c j) (lane d j)
lane_sums n a b c d w j h =
    sums (record { size = within_first n a b c d w j h }) (record { size = within_second n a b c d w j h })
    (record { size = within_third n a b c d w j h }) (record { size = within_fourth n a b c d w j h })

pub short_from : (n : ℕ) {m : ℕ} {z : ℤ} → AtMost m z → m ≤ n → n ≤ 32767 → IsShort z
short_from n h l k = short-at_most (more-at_most h l) k

-- ---- the odd waves
pub sum_along : {x y u v : ℤ} → x ≡ u → y ≡ v → pos 2217 *ℤ x +ℤ pos 5352 *ℤ y ≡ pos 2217 *ℤ u +ℤ pos 5352 *ℤ v
sum_along {x} {y} {u} {v} e f = ap (λ z. pos 2217 *ℤ z +ℤ pos 5352 *ℤ y) e ∙ ap (λ z. pos 2217 *ℤ u +ℤ pos 5352 *ℤ z) f

pub difference_along : {x y u v : ℤ} → x ≡ u → y ≡ v → pos 2217 *ℤ x -ℤ pos 5352 *ℤ y ≡ pos 2217 *ℤ u -ℤ pos 5352 *ℤ v
difference_along {x} {y} {u} {v} e f = ap (λ z. pos 2217 *ℤ z -ℤ pos 5352 *ℤ y) e ∙ ap (λ z. pos 2217 *ℤ u -ℤ pos 5352 *ℤ z) f

pub odd_sum-at_most : {x y : ℤ} → AtMost 16320 x → AtMost 16320 y → AtMost 123526080 (pos 2217 *ℤ x +ℤ pos 5352 *ℤ y)
odd_sum-at_most h k = more-at_most (sum-at_most (multiple-at_most 2217 h) (multiple-at_most 5352 k)) (omega arith)

pub odd_difference-at_most : {x y : ℤ} → AtMost 16320 x → AtMost 16320 y → AtMost 123526080 (pos 2217 *ℤ x -ℤ pos 5352 *ℤ y)
odd_difference-at_most h k = more-at_most (difference-at_most (multiple-at_most 2217 h) (multiple-at_most 5352 k)) (omega arith)

row_shifted : (z : ℤ) → unsigned_abs z ≤ 123526080 → SFits w16 (floor_div (z +ℤ pos 2048) 4096)
row_shifted z l = shifted (z +ℤ pos 2048) (omega (arith, ints))
  where
    shifted : (y : ℤ) → unsigned_abs y ≤ 123528128 → SFits w16 (floor_div y 4096)
    shifted (pos n) h = record { sfits = omega arith }
    shifted (negsuc n) h = record { sfits = omega arith }

column_shifted : (z : ℤ) → unsigned_abs z ≤ 123526080 → SFits w16 (floor_div (z +ℤ pos 32768) 65536)
column_shifted z l = shifted (z +ℤ pos 32768) (omega (arith, ints))
  where
    shifted : (y : ℤ) → unsigned_abs y ≤ 123558848 → SFits w16 (floor_div y 65536)
    shifted (pos n) h = record { sfits = omega arith }
    shifted (negsuc n) h = record { sfits = omega arith }

pub row_short : {z : ℤ} → AtMost 123526080 z → SFits w16 (floor_div (z +ℤ pos 2048) 4096)
row_short {z} h = row_shifted z h.size

pub column_short : {z : ℤ} → AtMost 123526080 z → SFits w16 (floor_div (z +ℤ pos 32768) 65536)
column_short {z} h = column_shifted z h.size

-- a block of small numbers
pub signed_block : (x : List ℤ) → length x ≡ 16 → EachWithin 255 x → Signed 16 (lane x) (map (of_z w16) x)
signed_block x l w =
    let e = mapped (of_z w16) (lanes_of (pos 0) 16 x l) in
    record {
      long = length-ByLane e;
      at = λ j h. subst (λ m. Stands m (lane x j)) (sym (lane_is 0 e j h)) (stands_of (lane x j) (let k = w j in short16_fits (lane x j) (omega arith)));
    }

-- a lane that is read from a vector as it is passed
pub lane_kept : (a : List ℤ) → Signed 4 (lane a) (map (of_z w16) a) → (j : ℕ) → j < 4 → coded16 (lane (handed16 a) j) ≡ lane a j
lane_kept a p j h = ap (λ z. coded16 z) (signed_out p j h) ∙ to_z-of_z w16 (lane a j) (sfits16 (p.at j h))

-- ---- differences of bytes
pub bytes_apart : (m n : ℕ) → m < 256 → n < 256 → unsigned_abs (pos m -ℤ pos n) ≤ 255
bytes_apart m n p q = omega (arith, ints)

pub bytes_apart_short : (m n : ℕ) → m < 256 → n < 256 → IsShort (pos m -ℤ pos n)
bytes_apart_short m n p q = (omega (arith, ints), omega (arith, ints))

pub each-within_sixteen : (b : ℕ) (v xs : List ℤ) → length xs ≡ 16 → ((j : ℕ) → j < 16 → lane xs j ≡ lane v j) → ((j : ℕ) → j < 16 → unsigned_abs (lane v j) ≤ b) → EachWithin b xs
each-within_sixteen b v xs long same small i = elim (cases_lt i 16) [
  | inl inside ↦ subst (λ z. unsigned_abs z ≤ b) (sym (same i inside)) (small i inside)
  | inr outside ↦ subst (λ z. unsigned_abs z ≤ b) (sym (get_or_past xs i (pos 0) (omega arith))) (omega arith)
]
