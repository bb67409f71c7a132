use Rattle.std.proofs.Common.{ℕ, ◌+◌, ◌*◌, ◌^◌, ap, sym, add-zero, List, ℤ, arith}
use Rattle.vp_transform.specs.Fits.{EachWithin}
use Rattle.vp_transform.specs.Transform.{element_at}
use Rattle.vp_transform.proofs.Along.{get}
use Rattle.vp_transform.proofs.Bounds.{at_most}
use Rattle.vp_transform.proofs.Known.{Is, is_at, is_read}
use Rattle.vp_transform.proofs.Waves.{row_c, row_d, row_first, row_third, row_even_sum, row_even_difference, fits_odd_sum, fits_rounded_sum, read_odd_sum, fits_odd_difference, fits_rounded_difference, read_odd_difference}
use Rattle.vp_transform.proofs.Words.{coded, four}
use Rattle.vp_transform.proofs.reference.row.Goals as goal

-- the four numbers that are read
module _ (x : List ℤ) (r : ℕ) (small : EachWithin (2 ^ 44) x) where
  zeroth : Is (2 ^ 44) (coded (get x (4 * r))) (element_at x r 0)
  zeroth = is_at (ap (λ i. coded (get x i)) (sym (add-zero (4 * r)))) (is_read (element_at x r 0) (at_most (2 ^ 44) x small (4 * r + 0)) (omega arith))

  number : (k : ℕ) → Is (2 ^ 44) (coded (get x k)) (get x k)
  number k = is_read (get x k) (at_most (2 ^ 44) x small k) (omega arith)

pub overflow_add-result : goal.overflow_add-result
overflow_add-result c =
    let x = c.args.x.now in
    let k = 4 * c.args.r in
    let s = c.requires.small in
    row_first (zeroth x c.args.r s) (number x c.args.r s (k + 1)) (number x c.args.r s (k + 2)) (number x c.args.r s (k + 3))

pub overflow_add-result-2 : goal.overflow_add-result-2
overflow_add-result-2 c =
    let x = c.args.x.now in
    let k = 4 * c.args.r in
    let s = c.requires.small in
    let i0 = zeroth x c.args.r s in
    let i1 = number x c.args.r s (k + 1) in
    let i2 = number x c.args.r s (k + 2) in
    let i3 = number x c.args.r s (k + 3) in
    fits_odd_sum (row_c i0 i1 i2 i3) (row_d i0 i1 i2 i3) (omega arith)

pub overflow_add-result-3 : goal.overflow_add-result-3
overflow_add-result-3 c =
    let x = c.args.x.now in
    let k = 4 * c.args.r in
    let s = c.requires.small in
    let i0 = zeroth x c.args.r s in
    let i1 = number x c.args.r s (k + 1) in
    let i2 = number x c.args.r s (k + 2) in
    let i3 = number x c.args.r s (k + 3) in
    fits_rounded_sum (row_c i0 i1 i2 i3) (row_d i0 i1 i2 i3) (omega arith) 2048 (omega arith)

pub overflow_sub-result : goal.overflow_sub-result
overflow_sub-result c =
    let x = c.args.x.now in
    let k = 4 * c.args.r in
    let s = c.requires.small in
    row_third (zeroth x c.args.r s) (number x c.args.r s (k + 1)) (number x c.args.r s (k + 2)) (number x c.args.r s (k + 3))

pub overflow_sub-result-2 : goal.overflow_sub-result-2
overflow_sub-result-2 c =
    let x = c.args.x.now in
    let k = 4 * c.args.r in
    let s = c.requires.small in
    let i0 = zeroth x c.args.r s in
    let i1 = number x c.args.r s (k + 1) in
    let i2 = number x c.args.r s (k + 2) in
    let i3 = number x c.args.r s (k + 3) in
    fits_odd_difference (row_c i0 i1 i2 i3) (row_d i0 i1 i2 i3) (omega arith)

pub overflow_add-result-4 : goal.overflow_add-result-4
overflow_add-result-4 c =
    let x = c.args.x.now in
    let k = 4 * c.args.r in
    let s = c.requires.small in
    let i0 = zeroth x c.args.r s in
    let i1 = number x c.args.r s (k + 1) in
    let i2 = number x c.args.r s (k + 2) in
    let i3 = number x c.args.r s (k + 3) in
    fits_rounded_difference (row_c i0 i1 i2 i3) (row_d i0 i1 i2 i3) (omega arith) 2048 (omega arith)

pub returns : goal.returns
returns c =
    let x = c.args.x.now in
    let k = 4 * c.args.r in
    let s = c.requires.small in
    let i0 = zeroth x c.args.r s in
    let i1 = number x c.args.r s (k + 1) in
    let i2 = number x c.args.r s (k + 2) in
    let i3 = number x c.args.r s (k + 3) in
    let w = row_c i0 i1 i2 i3 in
    let d = row_d i0 i1 i2 i3 in
    four (row_even_sum i0 i1 i2 i3) (read_odd_sum w d (omega arith) 2048 4096 (omega arith)) (row_even_difference i0 i1 i2 i3)
    (read_odd_difference w d (omega arith) 2048 4096 (omega arith))
