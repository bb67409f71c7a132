use Rattle.std.proofs.Common.{◌≡◌, ◌+◌, ◌<◌, ◌^◌, ℤ, ◌+ℤ◌, ◌-ℤ◌, [], ◌∷◌, unsigned_abs, arith}
use Rattle.std.proofs.lemmas.Int.{ints}
use Rattle.vp_transform.proofs.Words.{coded, read, read_sum, read_difference, difference, fits-along, four}
use Rattle.vp_transform.proofs.Sizes.{fits-below}
use Rattle.vp_transform.specs.Fits.{Fits}
use Rattle.vp_transform.specs.Steps.{mixed}
use Rattle.vp_transform.proofs.hadamard.mix.Goals as goal

module _ (i0 i1 i2 i3 : ℤ) (f0 : Fits i0) (f1 : Fits i1) (f2 : Fits i2) (f3 : Fits i3) (h : unsigned_abs i0 + unsigned_abs i1 + unsigned_abs i2 + unsigned_abs i3 < 2 ^ 63) where
  a_is : coded (coded i0 +ℤ coded i3) ≡ i0 +ℤ i3
  a_is = read_sum (read i0 f0) (read i3 f3) (fits-below _ (omega (arith, ints)))

  b_is : coded (coded i1 +ℤ coded i2) ≡ i1 +ℤ i2
  b_is = read_sum (read i1 f1) (read i2 f2) (fits-below _ (omega (arith, ints)))

  c_is : coded (coded i1 -ℤ coded i2) ≡ i1 -ℤ i2
  c_is = read_difference (read i1 f1) (read i2 f2) (fits-below _ (omega (arith, ints)))

  d_is : coded (coded i0 -ℤ coded i3) ≡ i0 -ℤ i3
  d_is = read_difference (read i0 f0) (read i3 f3) (fits-below _ (omega (arith, ints)))

  fourth_fits : Fits (coded (coded i0 -ℤ coded i3) -ℤ coded (coded i1 -ℤ coded i2))
  fourth_fits = fits-along (difference d_is c_is) (fits-below _ (omega (arith, ints)))

  mixed_read : coded (coded (coded i0 +ℤ coded i3) +ℤ coded (coded i1 +ℤ coded i2)) ∷ coded (coded (coded i1 -ℤ coded i2) +ℤ coded (coded i0 -ℤ coded i3)) ∷
      coded (coded (coded i0 +ℤ coded i3) -ℤ coded (coded i1 +ℤ coded i2)) ∷ coded (coded (coded i0 -ℤ coded i3) -ℤ coded (coded i1 -ℤ coded i2)) ∷ []
      ≡ mixed i0 i1 i2 i3
  mixed_read =
      four (read_sum a_is b_is (fits-below _ (omega (arith, ints)))) (read_sum c_is d_is (fits-below _ (omega (arith, ints))))
      (read_difference a_is b_is (fits-below _ (omega (arith, ints)))) (read_difference d_is c_is (fits-below _ (omega (arith, ints))))

pub overflow_sub-result-2 : goal.overflow_sub-result-2
overflow_sub-result-2 c = fourth_fits _ _ _ _ c.ranges.i0 c.ranges.i1 c.ranges.i2 c.ranges.i3 c.requires

pub returns : goal.returns
returns c = mixed_read _ _ _ _ c.ranges.i0 c.ranges.i1 c.ranges.i2 c.ranges.i3 c.requires
