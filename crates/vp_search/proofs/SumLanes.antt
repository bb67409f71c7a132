-- Sums of pixels in lanes of sixteen bits.
use Rattle.std.proofs.Common.{◌≡◌, ℕ, suc, ◌+◌, ◌-◌, ◌*◌, ◌%◌, ◌^◌, ◌<◌, ◌≤◌, Bool, true, false, not, cond, min, List, map, length, get_or, ltb, leb, eqb, refl, sym, ap, subst, ◌∙◌, arith, inl, inr}
use Rattle.std.proofs.lemmas.Bool.{cases_lt}
use Rattle.std.proofs.lemmas.List.{get_or-map, length-map}
use Rattle.std.proofs.lemmas.Nat.Bits.{bit_at_above, bit_at-zero}
use Rattle.std.proofs.lemmas.Simd.{bit_mask_l, mask_l-lt}
use Rattle.std.specs.Int.{bit_at}
use Rattle.std.specs.Int.{abs_diff}
use Rattle.std.proofs.lemmas.Bool.Decides.{nat_tests}
use lib.Lanes.{top, mask_l}
use Rattle.vp_search.specs.Sums.{sum_below}
use Rattle.vp_search.specs.Bounds.{capped, column_sum, row_sum, square_sum}
use Rattle.vp_search.proofs.SumLemmas.{sum_below-same, sum_below-add, sum_below-four, sum_below-head, sum_below-more, sum_below-bound}

-- ---- what one lane computes
pub sum16_is : (a b : ℕ) → a < 65536 → b < 65536 → (a + cond (top 15 (cond (ltb b (65535 - a)) 65535 0)) b (65535 - a)) % 65536 ≡ min (a + b) 65535
sum16_is a b p q = grind arith

pub apart16_is : (x y : ℕ) → x < 65536 → y < 65536
    → (cond (top 15 (cond (ltb x y) 65535 0)) y x + (65536 - cond (top 15 (cond (ltb x y) 65535 0)) x y)) % 65536 ≡ abs_diff x y
apart16_is x y p q = grind arith

pub less16_is : (a b : ℕ) → a < 65536 → b < 65536 → (cond (top 15 (cond (ltb a b) 65535 0)) b a + (65536 - b)) % 65536 ≡ a - b
less16_is a b p q = grind arith

-- ---- sums of four and of eight
pub four_are : (f : ℕ → ℕ) (a b c d p q r : ℕ) → a ≡ f 0 → b ≡ f 1 → c ≡ f 2 → d ≡ f 3 → p ≡ capped (a + b) → q ≡ capped (c + d) → r ≡ capped (p + q)
    → r ≡ capped (sum_below 4 f)
four_are f a b c d p q r ea eb ec ed ep eq er = let s = sum_below-four f in omega arith

pub eight_are : (f h : ℕ → ℕ) (p q r : ℕ) → ((k : ℕ) → k < 4 → h k ≡ f (4 + k)) → p ≡ capped (sum_below 4 f) → q ≡ capped (sum_below 4 h) → r ≡ capped (p + q)
    → r ≡ capped (sum_below 8 f)
eight_are f h p q r eh ep eq er = let s = sum_below-add 4 4 f in let u = sum_below-same 4 h (λ k. f (4 + k)) eh in omega arith

-- ---- eight numbers more in a list
pub eight_more : (f old new : ℕ → ℕ) (g : ℕ) → ((x : ℕ) → x < 8 * g → old x ≡ f x) → ((x : ℕ) → x < 8 * g → new x ≡ old x) → ((j : ℕ) → j < 8 → new (8 * g + j) ≡ f (8 * g + j))
    → (x : ℕ) → x < 8 * (g + 1) → new x ≡ f x
eight_more f old new g done same here x h = elim (cases_lt x (8 * g)) [
  | inl less ↦ same x less ∙ done x less
  | inr more ↦ (let e : 8 * g + (x - 8 * g) ≡ x = omega arith in subst (λ (k : ℕ). new k ≡ f k) e (here (x - 8 * g) (omega arith)))
]

-- eight neighbouring sums of columns are the sum of a square
pub row_is_square : (columns pixels : List ℕ) (at stride n x : ℕ) → ((k : ℕ) → k < n → get_or columns k 0 ≡ column_sum pixels (at + k) stride) → x + 8 ≤ n
    → row_sum columns x ≡ square_sum pixels (at + x) stride
unfolding row_sum square_sum
row_is_square columns pixels at stride n x all room =
    ap capped (sum_below-same 8 (λ c. get_or columns (x + c) 0) (λ c. column_sum pixels (at + x + c) stride)
    (λ c h. all (x + c) (omega arith) ∙ (let e : at + (x + c) ≡ at + x + c = omega arith in ap (λ (k : ℕ). column_sum pixels k stride) e)))

-- ---- masks
bit_clear : (b : Bool) (n : ℕ) → n ≡ cond b 1 0 → n ≡ 0 → b ≡ false
bit_clear true n e z = absurd (omega arith)
bit_clear false n e z = refl

-- a bit that is not set
pub mask_clear : (p : ℕ → Bool) (xs : List ℕ) (m j : ℕ) → m ≡ mask_l (map p xs) → j < length xs → bit_at m j ≡ 0 → p (get_or xs j 0) ≡ false
mask_clear p xs m j e h clear =
    sym (get_or-map p xs j 0 false h) ∙ bit_clear (get_or (map p xs) j false) (bit_at m j) (ap (λ (n : ℕ). bit_at n j) e ∙ bit_mask_l (map p xs) j) clear

pub mask_none : (p : ℕ → Bool) (xs : List ℕ) → mask_l (map p xs) ≡ 0 → (j : ℕ) → j < length xs → p (get_or xs j 0) ≡ false
mask_none p xs e j h = mask_clear p xs 0 j (sym e) h (bit_at-zero j)

pub mask_small : (p : ℕ → Bool) (xs : List ℕ) → length xs ≡ 8 → mask_l (map p xs) < 256
mask_small p xs e = subst (λ (n : ℕ). mask_l (map p xs) < 2 ^ n) (length-map xs p ∙ e) (mask_l-lt (map p xs))

-- the place of a bit that is set
pub bit_within : (n k : ℕ) → n < 256 → bit_at n k ≡ 1 → k < 8
bit_within n k h e = elim (cases_lt k 8) [
  | inl less ↦ less
  | inr more ↦ (let none = bit_at_above n 8 k h more in absurd (omega arith))
]

pub zero_from : (m : ℕ) → not (eqb m 0) ≡ false → m ≡ 0
zero_from m e = grind (arith, nat_tests)

pub above_from : (x y limit : ℕ) → leb x y ≡ false → y ≡ min limit 65535 → x < 65536 → limit < x
above_from x y limit e m f = grind (arith, nat_tests)

-- ---- the bound of a place
pub least_sums : (m a b c d w x y z p q r : ℕ) → a ≡ w → b ≡ x → c ≡ y → d ≡ z → p ≡ min (a + b) m → q ≡ min (c + d) m → r ≡ min (p + q) m
    → r ≡ min (min (w + x) m + min (y + z) m) m
least_sums m a b c d w x y z p q r ea eb ec ed ep eq er = omega arith

-- ---- the sum of a column one row further
slid_number : (old above below new s t u : ℕ) → old ≡ capped s → s + below ≡ above + t → s ≤ 2040 → below < 256 → u ≡ t → new ≡ capped (old + below) - above → new ≡ capped u
slid_number old above below new s t u eo e small byte eu en = omega arith

pub slid : (pixels : List ℕ) (at stride old above below new : ℕ) → ((k : ℕ) → get_or pixels k 0 < 256) → old ≡ column_sum pixels at stride
    → above ≡ get_or pixels at 0 → below ≡ get_or pixels (at + 8 * stride) 0 → new ≡ capped (old + below) - above → new ≡ column_sum pixels (at + stride) stride
unfolding column_sum
slid pixels at stride old above below new bytes eo ea eb en =
    let f : ℕ → ℕ = λ r. get_or pixels (at + r * stride) 0 in
    let g : ℕ → ℕ = λ r. get_or pixels (at + stride + r * stride) 0 in
    let moved : sum_below 8 g ≡ sum_below 8 (λ r. f (suc r)) = sum_below-same 8 g (λ r. f (suc r)) (λ r h. let e : at + stride + r * stride ≡ at + suc r * stride = omega arith in ap (λ (i : ℕ). get_or pixels i 0) e) in
    let head : sum_below 9 f ≡ f 0 + sum_below 8 (λ r. f (suc r)) = sum_below-head 8 f in
    let last : sum_below 9 f ≡ sum_below 8 f + f 8 = sum_below-more 8 f in
    let first : f 0 ≡ above = (let e : at + 0 * stride ≡ at = omega arith in ap (λ (i : ℕ). get_or pixels i 0) e) ∙ sym ea in
    let end : f 8 ≡ below = sym eb in
    let small : sum_below 8 f ≤ 8 * 255 = sum_below-bound 8 255 f (λ k h. let b = bytes (at + k * stride) in omega arith) in
    let byte = bytes (at + 8 * stride) in
    slid_number old above below new (sum_below 8 f) (sum_below 8 (λ r. f (suc r))) (sum_below 8 g) eo (omega arith) small (omega arith) moved en
