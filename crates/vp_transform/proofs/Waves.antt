-- The rows and columns of the forward DCT, as the code has them.
use Rattle.std.proofs.Common.{◌≡◌, ℕ, zero, suc, ◌+◌, ◌*◌, ◌^◌, ◌<◌, ◌≤◌, ℤ, pos, negsuc, ◌+ℤ◌, ◌-ℤ◌, ◌*ℤ◌, neg_ℤ, ◌≤ℤ◌, List, arith, unsigned_abs}
use Rattle.std.proofs.lemmas.Int.{ints}
use Rattle.vp_transform.specs.Fits.{Fits, EachWithin}
use Rattle.vp_transform.specs.Transform.{element_at, hadamard_times}
use Rattle.vp_transform.specs.Steps.{row_product}
use Rattle.vp_transform.specs.Forward.{row_waves, column_waves, row_pass, column_pass, fdct, times_hadamard_halved, fwht}
use Rattle.vp_transform.proofs.Along.{get}
use Rattle.vp_transform.proofs.Bounds.{at_most, each-block_of, row_size-at_most}
use Rattle.vp_transform.proofs.Signs.{product_row-at_most}
use Rattle.vp_transform.proofs.Sizes.{AtMost}
use Rattle.vp_transform.proofs.Known.{Is, is_sum, is_difference, is_multiple, read_shifted, constant, fits_sum, fits_difference}
use Rattle.vp_transform.proofs.Words.{coded}
use lib.Signed.{shr_z as floor_div}

module _ {x0 x1 x2 x3 i0 i1 i2 i3 : ℤ} (h0 : Is (2 ^ 44) x0 i0) (h1 : Is (2 ^ 44) x1 i1) (h2 : Is (2 ^ 44) x2 i2) (h3 : Is (2 ^ 44) x3 i3) where
  pub row_a : Is (8 * (2 ^ 44 + 2 ^ 44)) (coded (pos 8 *ℤ coded (x0 +ℤ x3))) (pos 8 *ℤ (i0 +ℤ i3))
  row_a = is_multiple 8 (is_sum h0 h3 (omega arith)) (omega arith)

  pub row_b : Is (8 * (2 ^ 44 + 2 ^ 44)) (coded (pos 8 *ℤ coded (x1 +ℤ x2))) (pos 8 *ℤ (i1 +ℤ i2))
  row_b = is_multiple 8 (is_sum h1 h2 (omega arith)) (omega arith)

  pub row_c : Is (8 * (2 ^ 44 + 2 ^ 44)) (coded (pos 8 *ℤ coded (x1 -ℤ x2))) (pos 8 *ℤ (i1 -ℤ i2))
  row_c = is_multiple 8 (is_difference h1 h2 (omega arith)) (omega arith)

  pub row_d : Is (8 * (2 ^ 44 + 2 ^ 44)) (coded (pos 8 *ℤ coded (x0 -ℤ x3))) (pos 8 *ℤ (i0 -ℤ i3))
  row_d = is_multiple 8 (is_difference h0 h3 (omega arith)) (omega arith)

  pub row_first : Fits (coded (pos 8 *ℤ coded (x0 +ℤ x3)) +ℤ coded (pos 8 *ℤ coded (x1 +ℤ x2)))
  row_first = fits_sum row_a row_b (omega arith)

  pub row_even_sum : coded (coded (pos 8 *ℤ coded (x0 +ℤ x3)) +ℤ coded (pos 8 *ℤ coded (x1 +ℤ x2))) ≡ pos 8 *ℤ (i0 +ℤ i3) +ℤ pos 8 *ℤ (i1 +ℤ i2)
  row_even_sum = (is_sum row_a row_b (omega arith)).same

  pub row_even_difference : coded (coded (pos 8 *ℤ coded (x0 +ℤ x3)) -ℤ coded (pos 8 *ℤ coded (x1 +ℤ x2))) ≡ pos 8 *ℤ (i0 +ℤ i3) -ℤ pos 8 *ℤ (i1 +ℤ i2)
  row_even_difference = (is_difference row_a row_b (omega arith)).same

  pub row_third : Fits (coded (pos 8 *ℤ coded (x0 +ℤ x3)) -ℤ coded (pos 8 *ℤ coded (x1 +ℤ x2)))
  row_third = fits_difference row_a row_b (omega arith)

module _ {k : ℕ} {c d u v : ℤ} (h : Is k c u) (g : Is k d v) (l : 7569 * k + 65536 < 2 ^ 63) where
  odd_sum : Is (2217 * k + 5352 * k) (coded (coded (pos 2217 *ℤ c) +ℤ coded (pos 5352 *ℤ d))) (pos 2217 *ℤ u +ℤ pos 5352 *ℤ v)
  odd_sum = is_sum (is_multiple 2217 h (omega arith)) (is_multiple 5352 g (omega arith)) (omega arith)

  pub fits_odd_sum : Fits (coded (pos 2217 *ℤ c) +ℤ coded (pos 5352 *ℤ d))
  fits_odd_sum = fits_sum (is_multiple 2217 h (omega arith)) (is_multiple 5352 g (omega arith)) (omega arith)

  pub fits_rounded_sum : (m : ℕ) → m ≤ 65536 → Fits (coded (coded (pos 2217 *ℤ c) +ℤ coded (pos 5352 *ℤ d)) +ℤ pos m)
  fits_rounded_sum m f = fits_sum odd_sum (constant m) (omega arith)

  pub read_odd_sum : (m n : ℕ) → m ≤ 65536 → coded (floor_div (coded (coded (coded (pos 2217 *ℤ c) +ℤ coded (pos 5352 *ℤ d)) +ℤ pos m)) n) ≡ floor_div (pos 2217 *ℤ u +ℤ pos 5352 *ℤ v +ℤ pos m) n
  read_odd_sum m n f = read_shifted n (is_sum odd_sum (constant m) (omega arith)) (omega arith)

  odd_difference : Is (2217 * k + 5352 * k) (coded (coded (pos 2217 *ℤ d) -ℤ coded (pos 5352 *ℤ c))) (pos 2217 *ℤ v -ℤ pos 5352 *ℤ u)
  odd_difference = is_difference (is_multiple 2217 g (omega arith)) (is_multiple 5352 h (omega arith)) (omega arith)

  pub fits_odd_difference : Fits (coded (pos 2217 *ℤ d) -ℤ coded (pos 5352 *ℤ c))
  fits_odd_difference = fits_difference (is_multiple 2217 g (omega arith)) (is_multiple 5352 h (omega arith)) (omega arith)

  pub fits_rounded_difference : (m : ℕ) → m ≤ 65536 → Fits (coded (coded (pos 2217 *ℤ d) -ℤ coded (pos 5352 *ℤ c)) +ℤ pos m)
  fits_rounded_difference m f = fits_sum odd_difference (constant m) (omega arith)

  pub read_odd_difference : (m n : ℕ) → m ≤ 65536 → coded (floor_div (coded (coded (coded (pos 2217 *ℤ d) -ℤ coded (pos 5352 *ℤ c)) +ℤ pos m)) n) ≡ floor_div (pos 2217 *ℤ v -ℤ pos 5352 *ℤ u +ℤ pos m) n
  read_odd_difference m n f = read_shifted n (is_sum odd_difference (constant m) (omega arith)) (omega arith)

-- ---- how large they get

shr_12-at_most : (z : ℤ) (n : ℕ) → z ≤ℤ pos (4096 * n + 4095) → neg_ℤ (pos (4096 * n)) ≤ℤ z → unsigned_abs (floor_div z 4096) ≤ n
shr_12-at_most (pos a) n h l = let e : a ≤ 4096 * n + 4095 = omega (arith, ints) in omega arith
shr_12-at_most (negsuc a) n h l = let e : suc a ≤ 4096 * n = omega (arith, ints) in omega arith

shr_16-at_most : (z : ℤ) (n : ℕ) → z ≤ℤ pos (65536 * n + 65535) → neg_ℤ (pos (65536 * n)) ≤ℤ z → unsigned_abs (floor_div z 65536) ≤ n
shr_16-at_most (pos a) n h l = let e : a ≤ 65536 * n + 65535 = omega (arith, ints) in omega arith
shr_16-at_most (negsuc a) n h l = let e : suc a ≤ 65536 * n = omega (arith, ints) in omega arith

shr_4-at_most : (z : ℤ) (n : ℕ) → z ≤ℤ pos (16 * n + 15) → neg_ℤ (pos (16 * n)) ≤ℤ z → unsigned_abs (floor_div z 16) ≤ n
shr_4-at_most (pos a) n h l = let e : a ≤ 16 * n + 15 = omega (arith, ints) in omega arith
shr_4-at_most (negsuc a) n h l = let e : suc a ≤ 16 * n = omega (arith, ints) in omega arith

-- a number from -n to n
record Between (n : ℕ) (z : ℤ) : Type 0 where
  low : neg_ℤ (pos n) ≤ℤ z
  high : z ≤ℤ pos n

between : {n : ℕ} {z : ℤ} → AtMost n z → Between n z
between h = record { low = omega (arith, ints, h.size); high = omega (arith, ints, h.size) }

module _ (b : ℕ) {i0 i1 i2 i3 : ℤ} (h0 : AtMost b i0) (h1 : AtMost b i1) (h2 : AtMost b i2) (h3 : AtMost b i3) where
  row-at_most : (k : ℕ) → AtMost (32 * b) (get (row_waves i0 i1 i2 i3) k)
  row-at_most zero =
      let j0 = between h0 in
      let j1 = between h1 in
      let j2 = between h2 in
      let j3 = between h3 in
      record { size = omega (arith, ints) }
  row-at_most (suc zero) =
      let j0 = between h0 in
      let j1 = between h1 in
      let j2 = between h2 in
      let j3 = between h3 in
      record { size = shr_12-at_most _ (32 * b) (omega (arith, ints)) (omega (arith, ints)) }
  row-at_most (suc (suc zero)) =
      let j0 = between h0 in
      let j1 = between h1 in
      let j2 = between h2 in
      let j3 = between h3 in
      record { size = omega (arith, ints) }
  row-at_most (suc (suc (suc zero))) =
      let j0 = between h0 in
      let j1 = between h1 in
      let j2 = between h2 in
      let j3 = between h3 in
      record { size = shr_12-at_most _ (32 * b) (omega (arith, ints)) (omega (arith, ints)) }
  row-at_most (suc (suc (suc (suc k)))) = record { size = omega arith }

module _ (b : ℕ) {i0 i1 i2 i3 : ℤ} (h0 : AtMost (32 * b) i0) (h1 : AtMost (32 * b) i1) (h2 : AtMost (32 * b) i2) (h3 : AtMost (32 * b) i3) where
  column-at_most : (k : ℕ) → AtMost (8 * b) (get (column_waves i0 i1 i2 i3) k)
  column-at_most zero =
      let j0 = between h0 in
      let j1 = between h1 in
      let j2 = between h2 in
      let j3 = between h3 in
      record { size = shr_4-at_most _ (8 * b) (omega (arith, ints)) (omega (arith, ints)) }
  column-at_most (suc zero) =
      let j0 = between h0 in
      let j1 = between h1 in
      let j2 = between h2 in
      let j3 = between h3 in
      record { size = shr_16-at_most _ (8 * b) (omega (arith, ints)) (omega (arith, ints)) }
  column-at_most (suc (suc zero)) =
      let j0 = between h0 in
      let j1 = between h1 in
      let j2 = between h2 in
      let j3 = between h3 in
      record { size = shr_4-at_most _ (8 * b) (omega (arith, ints)) (omega (arith, ints)) }
  column-at_most (suc (suc (suc zero))) =
      let j0 = between h0 in
      let j1 = between h1 in
      let j2 = between h2 in
      let j3 = between h3 in
      record { size = shr_16-at_most _ (8 * b) (omega (arith, ints)) (omega (arith, ints)) }
  column-at_most (suc (suc (suc (suc k)))) = record { size = omega arith }

module _ (b : ℕ) (block : List ℤ) (small : EachWithin b block) where
  here : (k : ℕ) → AtMost b (get block k)
  here = at_most b block small

  pub transpose-within : EachWithin (32 * b) (row_pass block)
  unfolding row_pass
  transpose-within =
      each-block_of (32 * b) (λ r c. get (row_waves (element_at block r 0) (element_at block r 1) (element_at block r 2) (element_at block r 3)) c)
      (λ r c. row-at_most b (here (4 * r + 0)) (here (4 * r + 1)) (here (4 * r + 2)) (here (4 * r + 3)) c)

  below : (k : ℕ) → AtMost (32 * b) (get (row_pass block) k)
  below = at_most (32 * b) (row_pass block) transpose-within

  pub fdct-within : EachWithin (8 * b) (fdct block)
  unfolding fdct column_pass
  fdct-within =
      each-block_of (8 * b) (λ r c. get (column_waves (element_at (row_pass block) 0 c) (element_at (row_pass block) 1 c) (element_at (row_pass block) 2 c) (element_at (row_pass block) 3 c)) r)
      (λ r c. column-at_most b (below (4 * 0 + c)) (below (4 * 1 + c)) (below (4 * 2 + c)) (below (4 * 3 + c)) r)

-- ---- the Walsh-Hadamard transform

pub shr_1-at_most : (z : ℤ) (n : ℕ) → z ≤ℤ pos (2 * n + 1) → neg_ℤ (pos (2 * n)) ≤ℤ z → unsigned_abs (floor_div z 2) ≤ n
shr_1-at_most (pos a) n h l = let e : a ≤ 2 * n + 1 = omega (arith, ints) in omega arith
shr_1-at_most (negsuc a) n h l = let e : suc a ≤ 2 * n = omega (arith, ints) in omega arith

module _ (b : ℕ) (block : List ℤ) (small : EachWithin b block) where
  halved-at_most : (z : ℤ) → unsigned_abs z ≤ 16 * b → unsigned_abs (floor_div (z +ℤ pos 1) 2) ≤ 8 * b
  halved-at_most z h = shr_1-at_most (z +ℤ pos 1) (8 * b) (omega (arith, ints)) (omega (arith, ints))

  pub fwht-within : EachWithin (8 * b) (fwht block)
  unfolding fwht times_hadamard_halved
  fwht-within =
      each-block_of (8 * b) (λ r c. floor_div (get (row_product (hadamard_times block) r) c +ℤ pos 1) 2)
      (λ r c. record { size = halved-at_most (get (row_product (hadamard_times block) r) c) (omega (arith, product_row-at_most (hadamard_times block) r c, row_size-at_most b block small r)) })
