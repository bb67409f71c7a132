-- The sums of four numbers with the signs of the Walsh-Hadamard matrix.
use Rattle.std.proofs.Common.{◌≡◌, ℕ, zero, suc, ◌+◌, ◌≤◌, ℤ, pos, ◌+ℤ◌, ◌*ℤ◌, List, [], ◌∷◌, arith, unsigned_abs, slice_index_or, subst, ◌<◌, ◌^◌}
use Rattle.std.proofs.lemmas.Int.{ints}
use Rattle.vp_transform.specs.Transform.{element_at, one, minus, hadamard_times}
use Rattle.vp_transform.specs.Fits.{column_size, row_size, IwhtFits}
use Rattle.vp_transform.specs.Steps.{mixed, column_product, row_product}
use Rattle.vp_transform.proofs.Words.{four}

module _ (i0 i1 i2 i3 : ℤ) where
  abbrev pub size : ℕ
  size = unsigned_abs i0 + unsigned_abs i1 + unsigned_abs i2 + unsigned_abs i3

  pub mixed-at_most : (k : ℕ) → unsigned_abs (slice_index_or (mixed i0 i1 i2 i3) k (pos 0)) ≤ size
  mixed-at_most zero = omega (arith, ints)
  mixed-at_most (suc zero) = omega (arith, ints)
  mixed-at_most (suc (suc zero)) = omega (arith, ints)
  mixed-at_most (suc (suc (suc zero))) = omega (arith, ints)
  mixed-at_most (suc (suc (suc (suc k)))) = omega arith

-- the four numbers are those of the matrix
mixed-left : (i0 i1 i2 i3 : ℤ) → mixed i0 i1 i2 i3 ≡
    (one *ℤ i0 +ℤ one *ℤ i1 +ℤ one *ℤ i2 +ℤ one *ℤ i3) ∷ (one *ℤ i0 +ℤ one *ℤ i1 +ℤ minus *ℤ i2 +ℤ minus *ℤ i3) ∷
    (one *ℤ i0 +ℤ minus *ℤ i1 +ℤ minus *ℤ i2 +ℤ one *ℤ i3) ∷ (one *ℤ i0 +ℤ minus *ℤ i1 +ℤ one *ℤ i2 +ℤ minus *ℤ i3) ∷ []
mixed-left i0 i1 i2 i3 = four (omega (arith, ints)) (omega (arith, ints)) (omega (arith, ints)) (omega (arith, ints))

mixed-right : (i0 i1 i2 i3 : ℤ) → mixed i0 i1 i2 i3 ≡
    (i0 *ℤ one +ℤ i1 *ℤ one +ℤ i2 *ℤ one +ℤ i3 *ℤ one) ∷ (i0 *ℤ one +ℤ i1 *ℤ one +ℤ i2 *ℤ minus +ℤ i3 *ℤ minus) ∷
    (i0 *ℤ one +ℤ i1 *ℤ minus +ℤ i2 *ℤ minus +ℤ i3 *ℤ one) ∷ (i0 *ℤ one +ℤ i1 *ℤ minus +ℤ i2 *ℤ one +ℤ i3 *ℤ minus) ∷ []
mixed-right i0 i1 i2 i3 = four (omega (arith, ints)) (omega (arith, ints)) (omega (arith, ints)) (omega (arith, ints))

pub mixed-column : (block : List ℤ) (c : ℕ) → mixed (element_at block 0 c) (element_at block 1 c) (element_at block 2 c) (element_at block 3 c) ≡ column_product block c
mixed-column block c = mixed-left (element_at block 0 c) (element_at block 1 c) (element_at block 2 c) (element_at block 3 c)

pub mixed-row : (block : List ℤ) (r : ℕ) → mixed (element_at block r 0) (element_at block r 1) (element_at block r 2) (element_at block r 3) ≡ row_product block r
mixed-row block r = mixed-right (element_at block r 0) (element_at block r 1) (element_at block r 2) (element_at block r 3)

-- the sizes of the rows of the matrix times the block
module _ (block : List ℤ) where
  abbrev sizes : ℕ
  sizes = column_size block 0 + column_size block 1 + column_size block 2 + column_size block 3

  pub column-at_most : (r c : ℕ) → unsigned_abs (slice_index_or (column_product block c) r (pos 0)) ≤ column_size block c
  column-at_most r c =
      subst (λ v. unsigned_abs (slice_index_or v r (pos 0)) ≤ column_size block c) (mixed-column block c)
      (mixed-at_most (element_at block 0 c) (element_at block 1 c) (element_at block 2 c) (element_at block 3 c) r)

  pub product_row-at_most : (r c : ℕ) → unsigned_abs (slice_index_or (row_product block r) c (pos 0)) ≤ row_size block r
  product_row-at_most r c =
      subst (λ v. unsigned_abs (slice_index_or v c (pos 0)) ≤ row_size block r) (mixed-row block r)
      (mixed-at_most (element_at block r 0) (element_at block r 1) (element_at block r 2) (element_at block r 3) c)

  row-at_most : (r : ℕ) → r < 4 → row_size (hadamard_times block) r ≤ sizes
  unfolding hadamard_times
  row-at_most zero l = omega (arith, column-at_most 0 0, column-at_most 0 1, column-at_most 0 2, column-at_most 0 3)
  row-at_most (suc zero) l = omega (arith, column-at_most 1 0, column-at_most 1 1, column-at_most 1 2, column-at_most 1 3)
  row-at_most (suc (suc zero)) l = omega (arith, column-at_most 2 0, column-at_most 2 1, column-at_most 2 2, column-at_most 2 3)
  row-at_most (suc (suc (suc zero))) l = omega (arith, column-at_most 3 0, column-at_most 3 1, column-at_most 3 2, column-at_most 3 3)
  row-at_most (suc (suc (suc (suc r)))) l = absurd (omega arith)

  pub rows_fit : (r : ℕ) → r < 4 → IwhtFits block → row_size (hadamard_times block) r + 3 < 2 ^ 63
  rows_fit r l h = omega (arith, row-at_most r l)
