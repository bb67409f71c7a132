use Rattle.std.proofs.Common.{ℕ, ◌+◌, ◌*◌, ◌^◌, ap, sym, zero-add, List, ℤ, ◌+ℤ◌, ◌-ℤ◌, arith}
use Rattle.vp_transform.specs.Fits.{EachWithin}
use Rattle.vp_transform.specs.Transform.{element_at}
use Rattle.vp_transform.proofs.Along.{get}
use Rattle.vp_transform.proofs.Bounds.{at_most}
use Rattle.vp_transform.proofs.Known.{Is, is_at, is_read, is_sum, is_difference, fits_sum, fits_difference, constant, read_shifted}
use Rattle.vp_transform.proofs.Waves.{fits_odd_sum, fits_rounded_sum, read_odd_sum, fits_odd_difference, fits_rounded_difference, read_odd_difference}
use Rattle.vp_transform.proofs.Words.{coded, four}
use Rattle.vp_transform.proofs.reference.column.Goals as goal

-- the four numbers that are read, their sums and differences
module _ (x : List ℤ) (k : ℕ) (small : EachWithin (2 ^ 49) x) where
  zeroth : Is (2 ^ 49) (coded (get x k)) (element_at x 0 k)
  zeroth = is_at (ap (λ i. coded (get x i)) (sym (zero-add k))) (is_read (element_at x 0 k) (at_most (2 ^ 49) x small (4 * 0 + k)) (omega arith))

  number : (i : ℕ) → Is (2 ^ 49) (coded (get x i)) (get x i)
  number i = is_read (get x i) (at_most (2 ^ 49) x small i) (omega arith)

  a : Is (2 ^ 49 + 2 ^ 49) (coded (coded (get x k) +ℤ coded (get x (12 + k)))) (element_at x 0 k +ℤ element_at x 3 k)
  a = is_sum zeroth (number (12 + k)) (omega arith)

  b : Is (2 ^ 49 + 2 ^ 49) (coded (coded (get x (4 + k)) +ℤ coded (get x (8 + k)))) (element_at x 1 k +ℤ element_at x 2 k)
  b = is_sum (number (4 + k)) (number (8 + k)) (omega arith)

  c : Is (2 ^ 49 + 2 ^ 49) (coded (coded (get x (4 + k)) -ℤ coded (get x (8 + k)))) (element_at x 1 k -ℤ element_at x 2 k)
  c = is_difference (number (4 + k)) (number (8 + k)) (omega arith)

  d : Is (2 ^ 49 + 2 ^ 49) (coded (coded (get x k) -ℤ coded (get x (12 + k)))) (element_at x 0 k -ℤ element_at x 3 k)
  d = is_difference zeroth (number (12 + k)) (omega arith)

pub overflow_add-result : goal.overflow_add-result
overflow_add-result g = let s = g.requires.small in fits_sum (a g.args.x.now g.args.column s) (b g.args.x.now g.args.column s) (omega arith)

pub overflow_add-result-2 : goal.overflow_add-result-2
overflow_add-result-2 g =
    let s = g.requires.small in
    fits_sum (is_sum (a g.args.x.now g.args.column s) (b g.args.x.now g.args.column s) (omega arith)) (constant 7) (omega arith)

pub overflow_add-result-3 : goal.overflow_add-result-3
overflow_add-result-3 g =
    let s = g.requires.small in
    fits_odd_sum (c g.args.x.now g.args.column s) (d g.args.x.now g.args.column s) (omega arith)

pub overflow_add-result-4 : goal.overflow_add-result-4
overflow_add-result-4 g =
    let s = g.requires.small in
    fits_rounded_sum (c g.args.x.now g.args.column s) (d g.args.x.now g.args.column s) (omega arith) 32768 (omega arith)

pub overflow_sub-result : goal.overflow_sub-result
overflow_sub-result g = let s = g.requires.small in fits_difference (a g.args.x.now g.args.column s) (b g.args.x.now g.args.column s) (omega arith)

pub overflow_add-result-5 : goal.overflow_add-result-5
overflow_add-result-5 g =
    let s = g.requires.small in
    fits_sum (is_difference (a g.args.x.now g.args.column s) (b g.args.x.now g.args.column s) (omega arith)) (constant 7) (omega arith)

pub overflow_sub-result-2 : goal.overflow_sub-result-2
overflow_sub-result-2 g =
    let s = g.requires.small in
    fits_odd_difference (c g.args.x.now g.args.column s) (d g.args.x.now g.args.column s) (omega arith)

pub overflow_add-result-6 : goal.overflow_add-result-6
overflow_add-result-6 g =
    let s = g.requires.small in
    fits_rounded_difference (c g.args.x.now g.args.column s) (d g.args.x.now g.args.column s) (omega arith) 32768 (omega arith)

pub returns : goal.returns
returns g =
    let x = g.args.x.now in
    let k = g.args.column in
    let s = g.requires.small in
    let sum = is_sum (a x k s) (b x k s) (omega arith) in
    let difference = is_difference (a x k s) (b x k s) (omega arith) in
    four (read_shifted 16 (is_sum sum (constant 7) (omega arith)) (omega arith))
    (read_odd_sum (c x k s) (d x k s) (omega arith) 32768 65536 (omega arith))
    (read_shifted 16 (is_sum difference (constant 7) (omega arith)) (omega arith))
    (read_odd_difference (c x k s) (d x k s) (omega arith) 32768 65536 (omega arith))
