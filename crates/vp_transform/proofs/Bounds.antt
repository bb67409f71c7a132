-- For callers: blocks of numbers that are at most b can be transformed, and how large the results are. Blocks of zeros, and blocks
-- whose first number alone is not 0.
use Rattle.std.proofs.Common.{Bool, true, false, T, leb, ◌&&◌, ◌≡◌, ℕ, zero, suc, ◌+◌, ◌*◌, ◌/◌, ◌%◌, ◌^◌, ◌≤◌, ℤ, pos, ◌+ℤ◌, List, [], ◌∷◌, replicate, map, unsigned_abs, refl, ap, sym, ◌∙◌, arith}
use Rattle.std.specs.List.{All, range_with_len}
use Rattle.std.proofs.lemmas.Int.{ints}
use Rattle.std.proofs.lemmas.List.Elements.{All-map, All-tail}
use Rattle.vp_transform.specs.Fits.{EachWithin, IdctFits, IwhtFits, column_size, row_size}
use Rattle.vp_transform.specs.Steps.{mixed, column_product, row_product}
use Rattle.vp_transform.specs.Transform.{element_at, block_from, turned, rounded, column_turned, row_turned, vertical, horizontal, idct, hadamard_times, times_hadamard_rounded, iwht}
use Rattle.vp_transform.proofs.Along.{get, by_columns, columns_along, rows_along}
use Rattle.vp_transform.proofs.Signs.{mixed-column, mixed-row, column-at_most, product_row-at_most}
use Rattle.vp_transform.proofs.Sizes.{AtMost, sum-at_most, more-at_most, rounded-at_most, fits-at_most, four-at_most, turned-at_most, turn_fits}
use Rattle.vp_transform.proofs.Words.{four}
use lib.Dec.{leb→le}
use lib.Signed.{shr_z as floor_div}

first_of_both : (p q : Bool) → T (p && q) → T p
first_of_both true q h = tt
first_of_both false q h = h

second_of_both : (p q : Bool) → T (p && q) → T q
second_of_both true q h = h
second_of_both false q h = absurd h

each-all : (b : ℕ) (xs : List ℤ) → All (λ z. unsigned_abs z ≤ b) xs → EachWithin b xs
each-all b [] h k = omega arith
each-all b (x ∷ xs) h zero = h zero x (omega arith)
each-all b (x ∷ xs) h (suc k) = each-all b xs (All-tail (λ z. unsigned_abs z ≤ b) x xs h) k

pub at_most : (b : ℕ) (block : List ℤ) → EachWithin b block → (k : ℕ) → AtMost b (get block k)
at_most b block h k = record { size = h k }

pub each-block_of : (n : ℕ) (f : ℕ → ℕ → ℤ) → ((r c : ℕ) → AtMost n (f r c)) → EachWithin n (block_from f)
each-block_of n f h =
    each-all n (block_from f) (All-map (λ z. unsigned_abs z ≤ n) (λ place. f (place / 4) (place % 4)) (range_with_len 0 16) (λ k d l. (h _ _).size))

-- a test of numbers that are known
abbrev pub are_within : ℕ → List ℤ → Bool
are_within b [] = true
are_within b (x ∷ xs) = leb (unsigned_abs x) b && are_within b xs

pub each-tested : (b : ℕ) (xs : List ℤ) → T (are_within b xs) → EachWithin b xs
each-tested b [] h k = omega arith
each-tested b (x ∷ xs) h zero = leb→le (unsigned_abs x) b (first_of_both (leb (unsigned_abs x) b) (are_within b xs) h)
each-tested b (x ∷ xs) h (suc k) = each-tested b xs (second_of_both (leb (unsigned_abs x) b) (are_within b xs) h) k

module _ (b : ℕ) (block : List ℤ) (small : EachWithin b block) where
  here : (k : ℕ) → AtMost b (get block k)
  here = at_most b block small

  vertical-within : EachWithin (5 * b) (vertical block)
  unfolding vertical
  vertical-within =
      each-block_of (5 * b) (λ r c. get (column_turned block c) r) (λ r c. turned-at_most b (here _) (here _) (here _) (here _) r)

  below : (k : ℕ) → AtMost (5 * b) (get (vertical block) k)
  below = at_most (5 * b) (vertical block) vertical-within

  pub idct_fits : b ≤ 2 ^ 40 → IdctFits block
  idct_fits l = record {
    columns = record { column = λ c k. turn_fits b (here _) (here _) (here _) (here _) (omega arith) };
    rows = record {
      row = λ r k. record {
        idct_1d = turn_fits (5 * b) (below _) (below _) (below _) (below _) (omega arith);
        more = λ k m. fits-at_most (sum-at_most (turned-at_most (5 * b) (below _) (below _) (below _) (below _) k) four-at_most) (omega arith);
      };
    };
  }

  pub idct-within : EachWithin (4 * b) (idct block)
  unfolding idct horizontal
  idct-within =
      each-block_of (4 * b) (λ r c. rounded (get (row_turned (vertical block) r) c))
      (λ r c. rounded-at_most _ 4 (4 * b) (omega arith) (more-at_most (turned-at_most (5 * b) (below _) (below _) (below _) (below _) c) (omega arith)))

  pub hadamard_times-within : EachWithin (4 * b) (hadamard_times block)
  unfolding hadamard_times
  hadamard_times-within =
      each-block_of (4 * b) (λ r c. get (column_product block c) r)
      (λ r c. record { size = omega (arith, column-at_most block r c, (here (4 * 0 + c)).size, (here (4 * 1 + c)).size, (here (4 * 2 + c)).size, (here (4 * 3 + c)).size) })

  transpose : (k : ℕ) → AtMost (4 * b) (get (hadamard_times block) k)
  transpose = at_most (4 * b) (hadamard_times block) hadamard_times-within

  column_size-at_most : (c : ℕ) → column_size block c ≤ 4 * b
  column_size-at_most c = omega (arith, (here (4 * 0 + c)).size, (here (4 * 1 + c)).size, (here (4 * 2 + c)).size, (here (4 * 3 + c)).size)

  pub row_size-at_most : (r : ℕ) → row_size (hadamard_times block) r ≤ 16 * b
  row_size-at_most r = omega (arith, (transpose (4 * r + 0)).size, (transpose (4 * r + 1)).size, (transpose (4 * r + 2)).size, (transpose (4 * r + 3)).size)

  pub iwht_fits : b ≤ 2 ^ 40 → IwhtFits block
  iwht_fits l = omega (arith, column_size-at_most 0, column_size-at_most 1, column_size-at_most 2, column_size-at_most 3)

  pub iwht-within : EachWithin (2 * b) (iwht block)
  unfolding iwht times_hadamard_rounded
  iwht-within =
      each-block_of (2 * b) (λ r c. floor_div (get (row_product (hadamard_times block) r) c +ℤ pos 3) 8)
      (λ r c. rounded-at_most (get (row_product (hadamard_times block) r) c) 3 (2 * b) (omega arith) (record { size = omega (arith, product_row-at_most (hadamard_times block) r c, row_size-at_most r) }))

-- ---- a block whose first number alone is not 0
abbrev pub first_alone : ℤ → List ℤ
first_alone z = z ∷ replicate 15 (pos 0)

turned-first : (z : ℤ) → turned z (pos 0) (pos 0) (pos 0) ≡ z ∷ z ∷ z ∷ z ∷ []
turned-first z = four (omega (arith, ints)) (omega (arith, ints)) (omega (arith, ints)) (omega (arith, ints))

pub idct-first_alone : (z : ℤ) → idct (first_alone z) ≡ replicate 16 (rounded z)
unfolding idct vertical horizontal
idct-first_alone z =
    let nothing : List ℤ = replicate 4 (pos 0) in
    let columns : vertical (first_alone z) ≡ by_columns (z ∷ z ∷ z ∷ z ∷ []) nothing nothing nothing =
    let same : nothing ≡ nothing = refl in columns_along (turned-first z) same same same in
    let e : map (λ v. rounded v) (turned z (pos 0) (pos 0) (pos 0)) ≡ replicate 4 (rounded z) = ap (λ v. map (λ w. rounded w) v) (turned-first z) in
    ap (λ v. horizontal v) columns ∙ rows_along e e e e

mixed-first : (z : ℤ) → mixed z (pos 0) (pos 0) (pos 0) ≡ z ∷ z ∷ z ∷ z ∷ []
mixed-first z = four (omega (arith, ints)) (omega (arith, ints)) (omega (arith, ints)) (omega (arith, ints))

pub iwht-first_alone : (z : ℤ) → iwht (first_alone z) ≡ replicate 16 (floor_div (z +ℤ pos 3) 8)
unfolding iwht hadamard_times times_hadamard_rounded
iwht-first_alone z =
    let nothing : List ℤ = replicate 4 (pos 0) in
    let same : nothing ≡ nothing = refl in
    let all : List ℤ = by_columns (z ∷ z ∷ z ∷ z ∷ []) nothing nothing nothing in
    let columns : hadamard_times (first_alone z) ≡ all = columns_along (sym (mixed-column (first_alone z) 0) ∙ mixed-first z) same same same in
    let row : (r : ℕ) → mixed (element_at all r 0) (element_at all r 1) (element_at all r 2) (element_at all r 3) ≡ z ∷ z ∷ z ∷ z ∷ [] → map (λ v. floor_div (v +ℤ pos 3) 8) (row_product all r) ≡ replicate 4 (floor_div (z +ℤ pos 3) 8) =
    λ r e. ap (λ v. map (λ w. floor_div (w +ℤ pos 3) 8) v) (sym (mixed-row all r) ∙ e) in
    ap (λ v. times_hadamard_rounded v) columns ∙ rows_along (row 0 (mixed-first z)) (row 1 (mixed-first z)) (row 2 (mixed-first z)) (row 3 (mixed-first z))

-- of a block whose numbers are known
pub idct_fits_tested : (block : List ℤ) → T (are_within (2 ^ 40) block) → IdctFits block
idct_fits_tested block h = idct_fits (2 ^ 40) block (each-tested (2 ^ 40) block h) (omega arith)
