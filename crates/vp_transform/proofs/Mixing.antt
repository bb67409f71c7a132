-- Blocks in lanes, from step to step of their transforms.
use Rattle.std.proofs.Common.{◌≡◌, ℕ, ◌+◌, ◌*◌, ◌^◌, ◌<◌, ◌≤◌, ℤ, pos, ◌+ℤ◌, List, map, lit<, ap, sym, subst, ◌∙◌, arith}
use Rattle.vp_lanes.specs.Lane.{lane}
use Rattle.vp_transform.specs.Fits.{EachWithin}
use Rattle.vp_transform.specs.Narrow.{column_of, block_in, LanesWithin}
use Rattle.vp_transform.specs.Pair.{transposed}
use Rattle.vp_transform.specs.Steps.{mixed, column_product, row_product}
use Rattle.vp_transform.specs.Transform.{element_at, block_from, hadamard_times, times_hadamard_rounded, iwht, idct}
use Rattle.vp_transform.proofs.Along.{columns_along, rows_along}
use Rattle.vp_transform.proofs.Bounds.{at_most, each-block_of, hadamard_times-within, idct-within}
use Rattle.vp_transform.proofs.Signs.{mixed-column, mixed-row}
use Rattle.vp_transform.proofs.Sizes.{rounded-at_most}
use Rattle.vp_transform.proofs.Vectors.{sixteen, handed, small_passes, within_first, within_second, within_third, within_fourth, block_handed, block_read, idct_of_rows}
use lib.Signed.{shr_z as floor_div}

-- (z + 3) / 8, rounded down
abbrev pub eighth : ℤ → ℤ
eighth z = floor_div (z +ℤ pos 3) 8

abbrev pub eighths : List ℤ → List ℤ
eighths block = block_from (λ r c. eighth (element_at block r c))

pub columns_mixed : (a b c d v0 v1 v2 v3 : List ℤ) → ((j : ℕ) → j < 4 → column_of v0 v1 v2 v3 j ≡ mixed (lane a j) (lane b j) (lane c j) (lane d j))
    → block_in v0 v1 v2 v3 ≡ hadamard_times (block_in a b c d)
unfolding hadamard_times
columns_mixed a b c d v0 v1 v2 v3 e =
    let x = block_in a b c d in
    columns_along (e 0 (lit< tt) ∙ mixed-column x 0) (e 1 (lit< tt) ∙ mixed-column x 1) (e 2 (lit< tt) ∙ mixed-column x 2) (e 3 (lit< tt) ∙ mixed-column x 3)

pub rows_rounded : (a b c d v0 v1 v2 v3 : List ℤ) → ((j : ℕ) → j < 4 → lane v0 j ≡ eighth (lane a j)) → ((j : ℕ) → j < 4 → lane v1 j ≡ eighth (lane b j))
    → ((j : ℕ) → j < 4 → lane v2 j ≡ eighth (lane c j)) → ((j : ℕ) → j < 4 → lane v3 j ≡ eighth (lane d j)) → block_in v0 v1 v2 v3 ≡ map (λ z. eighth z) (block_in a b c d)
rows_rounded a b c d v0 v1 v2 v3 e f g h =
    sixteen (e 0 (lit< tt)) (e 1 (lit< tt)) (e 2 (lit< tt)) (e 3 (lit< tt)) (f 0 (lit< tt)) (f 1 (lit< tt)) (f 2 (lit< tt)) (f 3 (lit< tt))
    (g 0 (lit< tt)) (g 1 (lit< tt)) (g 2 (lit< tt)) (g 3 (lit< tt)) (h 0 (lit< tt)) (h 1 (lit< tt)) (h 2 (lit< tt)) (h 3 (lit< tt))

-- the matrix is symmetric: a product from the left is one from the right of the block with rows and columns exchanged
exchanged : (v : List ℤ) → transposed (eighths (hadamard_times (transposed v))) ≡ times_hadamard_rounded v
unfolding hadamard_times times_hadamard_rounded
exchanged v =
    let row : (r : ℕ) → column_product (transposed v) r ≡ row_product v r → map (λ z. eighth z) (column_product (transposed v) r) ≡ map (λ z. eighth z) (row_product v r) =
    λ r e. ap (λ u. map (λ z. eighth z) u) e in
    rows_along (row 0 (sym (mixed-column (transposed v) 0) ∙ mixed-row v 0)) (row 1 (sym (mixed-column (transposed v) 1) ∙ mixed-row v 1))
    (row 2 (sym (mixed-column (transposed v) 2) ∙ mixed-row v 2)) (row 3 (sym (mixed-column (transposed v) 3) ∙ mixed-row v 3))

-- ---- how large the numbers are
pub transposed-within : (n : ℕ) (v : List ℤ) → EachWithin n v → EachWithin n (transposed v)
transposed-within n v w = each-block_of n (λ r c. element_at v c r) (λ r c. at_most n v w _)

eighths-within : (n : ℕ) (v : List ℤ) → EachWithin (8 * n) v → EachWithin n (eighths v)
eighths-within n v w = each-block_of n (λ r c. eighth (element_at v r c)) (λ r c. rounded-at_most (element_at v r c) 3 n (omega arith) (at_most (8 * n) v w _))

-- ---- a block that one call gave and the next is passed: it is x
pub record Block (n : ℕ) (x : List ℤ) (a b c d : List ℤ) : Type 0 where
  pub is : block_in a b c d ≡ x
  pub passed : block_in (handed a) (handed b) (handed c) (handed d) ≡ x
  pub within : EachWithin n x

pub block : (n : ℕ) {x a b c d : List ℤ} → n < 2 ^ 31 → block_in a b c d ≡ x → EachWithin n x → Block n x a b c d
block n {x} {a} {b} {c} {d} l e w =
    let h : EachWithin n (block_in a b c d) = subst (λ v. EachWithin n v) (sym e) w in
    record {
      is = e;
      passed = block_handed (small_passes n a l (within_first n a b c d h)) (small_passes n b l (within_second n a b c d h))
          (small_passes n c l (within_third n a b c d h)) (small_passes n d l (within_fourth n a b c d h)) ∙ e;
      within = w;
    }

-- .. so it meets what the next call asks
pub passed-within : {m : ℕ} (n : ℕ) {x a b c d : List ℤ} → m ≤ n → Block m x a b c d → EachWithin n (block_in (handed a) (handed b) (handed c) (handed d))
passed-within {m} n l h k = subst (λ v. EachWithin n v) (sym h.passed) (λ k. let w = h.within k in omega (arith, w)) k

module _ {m : ℕ} (n : ℕ) {x a b c d : List ℤ} (l : m ≤ n) (h : Block m x a b c d) where
  pub first-within : LanesWithin n (handed a)
  first-within = within_first n (handed a) (handed b) (handed c) (handed d) (passed-within n l h)

  pub second-within : LanesWithin n (handed b)
  second-within = within_second n (handed a) (handed b) (handed c) (handed d) (passed-within n l h)

  pub third-within : LanesWithin n (handed c)
  third-within = within_third n (handed a) (handed b) (handed c) (handed d) (passed-within n l h)

  pub fourth-within : LanesWithin n (handed d)
  fourth-within = within_fourth n (handed a) (handed b) (handed c) (handed d) (passed-within n l h)

-- ---- the steps
pub rows_of : (n : ℕ) (x a b c d : List ℤ) → n < 2 ^ 31 → EachWithin n x → ((j : ℕ) → j < 4 → lane a j ≡ element_at x 0 j) → ((j : ℕ) → j < 4 → lane b j ≡ element_at x 1 j)
    → ((j : ℕ) → j < 4 → lane c j ≡ element_at x 2 j) → ((j : ℕ) → j < 4 → lane d j ≡ element_at x 3 j) → Block n (block_from (element_at x)) a b c d
rows_of n x a b c d l small e f g h =
    block n l (block_read x a b c d e f g h) (each-block_of n (λ r c. element_at x r c) (λ r c. record { size = small (4 * r + c) }))

pub idct_block : (n : ℕ) (x : List ℤ) {a b c d : List ℤ} → Block n (block_from (element_at x)) a b c d → (v0 v1 v2 v3 : List ℤ) → 4 * n < 2 ^ 31 → EachWithin n x
    → block_in v0 v1 v2 v3 ≡ idct (block_in (handed a) (handed b) (handed c) (handed d)) → Block (4 * n) (idct x) v0 v1 v2 v3
idct_block n x h v0 v1 v2 v3 l small e = block (4 * n) l (e ∙ (ap (λ v. idct v) h.passed ∙ idct_of_rows x)) (idct-within n x small)

module _ {n : ℕ} {x a b c d : List ℤ} (h : Block n x a b c d) (v0 v1 v2 v3 : List ℤ) where
  pub mixed_block : 4 * n < 2 ^ 31 → block_in v0 v1 v2 v3 ≡ hadamard_times (block_in (handed a) (handed b) (handed c) (handed d)) → Block (4 * n) (hadamard_times x) v0 v1 v2 v3
  mixed_block l e = block (4 * n) l (e ∙ ap (λ v. hadamard_times v) h.passed) (hadamard_times-within n x h.within)

  pub exchanged_block : n < 2 ^ 31 → v0 ≡ column_of (handed a) (handed b) (handed c) (handed d) 0 → v1 ≡ column_of (handed a) (handed b) (handed c) (handed d) 1
      → v2 ≡ column_of (handed a) (handed b) (handed c) (handed d) 2 → v3 ≡ column_of (handed a) (handed b) (handed c) (handed d) 3 → Block n (transposed x) v0 v1 v2 v3
  exchanged_block l e f g i = block n l (rows_along e f g i ∙ ap (λ v. transposed v) h.passed) (transposed-within n x h.within)

pub rounded_block : (n : ℕ) {x a b c d : List ℤ} → Block (8 * n) x a b c d → (v0 v1 v2 v3 : List ℤ) → n < 2 ^ 31
    → block_in v0 v1 v2 v3 ≡ map (λ z. eighth z) (block_in (handed a) (handed b) (handed c) (handed d)) → Block n (eighths x) v0 v1 v2 v3
rounded_block n {x} h v0 v1 v2 v3 l e = block n l (e ∙ ap (λ v. eighths v) h.passed) (eighths-within n x h.within)

-- all of them
pub iwht_in_steps : (x : List ℤ) → transposed (eighths (hadamard_times (transposed (hadamard_times (block_from (element_at x)))))) ≡ iwht x
unfolding iwht hadamard_times
iwht_in_steps x = exchanged (hadamard_times (block_from (element_at x)))
