use Rattle.std.proofs.Common.{◌≡◌, ℤ, pos, ◌+ℤ◌, ◌-ℤ◌, ◌*ℤ◌}
use Rattle.vp_transform.proofs.Words.{coded, read, read_sum, read_difference, read_scaled, sum, difference, fits-along, read-along, four}
use Rattle.vp_transform.specs.Fits.{Fits, TurnFits}
use Rattle.vp_transform.specs.Transform.{scaled}
use Rattle.vp_transform.proofs.cosine.idct_1d.Goals as goal
use lib.Signed.{shr_z as floor_div}

-- what the code has for z * k / 2^16
abbrev coded_scaled : ℤ → ℤ → ℤ
coded_scaled z k = coded (floor_div (coded (coded z *ℤ k)) 65536)

-- a, b, c and d
module _ (i0 i1 i2 i3 : ℤ) (f0 : Fits i0) (f1 : Fits i1) (f2 : Fits i2) (f3 : Fits i3) (h : TurnFits i0 i1 i2 i3) where
  a_is : coded (coded i0 +ℤ coded i2) ≡ i0 +ℤ i2
  a_is = read_sum (read i0 f0) (read i2 f2) h.a

  b_is : coded (coded i0 -ℤ coded i2) ≡ i0 -ℤ i2
  b_is = read_difference (read i0 f0) (read i2 f2) h.b

  c_is : coded_scaled i1 (pos 35468) -ℤ coded (coded i3 +ℤ coded_scaled i3 (pos 20091)) ≡ scaled i1 35468 -ℤ (i3 +ℤ scaled i3 20091)
  c_is =
      difference (read_scaled (pos 35468) (read i1 f1) h.sine_1)
      (read_sum (read i3 f3) (read_scaled (pos 20091) (read i3 f3) h.cosine_3) h.grown_3)

  d_is : coded (coded i1 +ℤ coded_scaled i1 (pos 20091)) +ℤ coded_scaled i3 (pos 35468) ≡ (i1 +ℤ scaled i1 20091) +ℤ scaled i3 35468
  d_is =
      sum (read_sum (read i1 f1) (read_scaled (pos 20091) (read i1 f1) h.cosine_1) h.grown_1)
      (read_scaled (pos 35468) (read i3 f3) h.sine_3)

pub overflow_sub-c : goal.overflow_sub-c
overflow_sub-c c = fits-along (c_is _ _ _ _ c.ranges.i0 c.ranges.i1 c.ranges.i2 c.ranges.i3 c.requires) c.requires.c

pub overflow_add-d-2 : goal.overflow_add-d-2
overflow_add-d-2 c = fits-along (d_is _ _ _ _ c.ranges.i0 c.ranges.i1 c.ranges.i2 c.ranges.i3 c.requires) c.requires.d

pub overflow_add-result : goal.overflow_add-result
overflow_add-result c =
    let a = a_is _ _ _ _ c.ranges.i0 c.ranges.i1 c.ranges.i2 c.ranges.i3 c.requires in
    let d = d_is _ _ _ _ c.ranges.i0 c.ranges.i1 c.ranges.i2 c.ranges.i3 c.requires in
    fits-along (sum a (read-along d c.requires.d)) c.requires.first

pub overflow_add-result-2 : goal.overflow_add-result-2
overflow_add-result-2 c =
    let b = b_is _ _ _ _ c.ranges.i0 c.ranges.i1 c.ranges.i2 c.ranges.i3 c.requires in
    let e = c_is _ _ _ _ c.ranges.i0 c.ranges.i1 c.ranges.i2 c.ranges.i3 c.requires in
    fits-along (sum b (read-along e c.requires.c)) c.requires.second

pub overflow_sub-result : goal.overflow_sub-result
overflow_sub-result c =
    let b = b_is _ _ _ _ c.ranges.i0 c.ranges.i1 c.ranges.i2 c.ranges.i3 c.requires in
    let e = c_is _ _ _ _ c.ranges.i0 c.ranges.i1 c.ranges.i2 c.ranges.i3 c.requires in
    fits-along (difference b (read-along e c.requires.c)) c.requires.third

pub overflow_sub-result-2 : goal.overflow_sub-result-2
overflow_sub-result-2 c =
    let a = a_is _ _ _ _ c.ranges.i0 c.ranges.i1 c.ranges.i2 c.ranges.i3 c.requires in
    let d = d_is _ _ _ _ c.ranges.i0 c.ranges.i1 c.ranges.i2 c.ranges.i3 c.requires in
    fits-along (difference a (read-along d c.requires.d)) c.requires.fourth

pub returns : goal.returns
returns c =
    let a = a_is _ _ _ _ c.ranges.i0 c.ranges.i1 c.ranges.i2 c.ranges.i3 c.requires in
    let b = b_is _ _ _ _ c.ranges.i0 c.ranges.i1 c.ranges.i2 c.ranges.i3 c.requires in
    let e = read-along (c_is _ _ _ _ c.ranges.i0 c.ranges.i1 c.ranges.i2 c.ranges.i3 c.requires) c.requires.c in
    let d = read-along (d_is _ _ _ _ c.ranges.i0 c.ranges.i1 c.ranges.i2 c.ranges.i3 c.requires) c.requires.d in
    four (read_sum a d c.requires.first) (read_sum b e c.requires.second) (read_difference b e c.requires.third)
    (read_difference a d c.requires.fourth)
