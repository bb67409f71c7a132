-- A block times the Walsh-Hadamard matrix, and its numbers rounded.
use Rattle.std.proofs.Common.{◌≡◌, ℕ, ◌+◌, ◌/◌, ◌%◌, ◌^◌, ◌<◌, ◌≤◌, ℤ, pos, ◌+ℤ◌, List, map, length, lit<, sym, ap, subst, ◌∙◌, arith, unsigned_abs}
use Rattle.std.proofs.lemmas.Int.{ints}
use Rattle.vp_lanes.proofs.Shape.{lanes_of, lane_is}
use Rattle.vp_transform.specs.Fits.{Fits, row_size}
use Rattle.vp_transform.specs.Transform.{element_at, hadamard, product, times_hadamard}
use Rattle.vp_transform.proofs.Along.{get}
use Rattle.vp_transform.proofs.Signs.{product_row-at_most}
use Rattle.vp_transform.proofs.Sizes.{fits-below}
use Rattle.vp_transform.proofs.Vectors.{sixteen, below_four}

pub mapped_is : (f : ℤ → ℤ) (r x : List ℤ) → length r ≡ 16 → length x ≡ 16 → ((k : ℕ) → k < 16 → get r k ≡ f (get x k)) → r ≡ map f x
mapped_is f r x l m e =
    (lanes_of (pos 0) 16 r l).is ∙ (sixteen (e 0 (lit< tt)) (e 1 (lit< tt)) (e 2 (lit< tt)) (e 3 (lit< tt)) (e 4 (lit< tt)) (e 5 (lit< tt)) (e 6 (lit< tt)) (e 7 (lit< tt))
    (e 8 (lit< tt)) (e 9 (lit< tt)) (e 10 (lit< tt)) (e 11 (lit< tt)) (e 12 (lit< tt)) (e 13 (lit< tt)) (e 14 (lit< tt)) (e 15 (lit< tt)) ∙ sym (ap (λ v. map f v) (lanes_of (pos 0) 16 x m).is))

pub more_fits : (z : ℤ) (k : ℕ) → k ≤ 3 → unsigned_abs z + 3 < 2 ^ 63 → Fits (z +ℤ pos k)
more_fits z k l h = fits-below _ (omega (arith, ints))

product-at_most : (v : List ℤ) (r c : ℕ) → c < 4 → unsigned_abs (product (element_at v) (element_at hadamard) r c) ≤ row_size v r
product-at_most v r =
    below_four (λ c. unsigned_abs (product (element_at v) (element_at hadamard) r c) ≤ row_size v r) (product_row-at_most v r 0) (product_row-at_most v r 1) (product_row-at_most v r 2) (product_row-at_most v r 3)

pub products_fit : (v : List ℤ) → ((r : ℕ) → r < 4 → row_size v r + 3 < 2 ^ 63) → (k : ℕ) → k < 16 → unsigned_abs (get (times_hadamard v) k) + 3 < 2 ^ 63
unfolding times_hadamard
products_fit v h k l =
    let e = lane_is {F = λ place. product (element_at v) (element_at hadamard) (place / 4) (place % 4)} (pos 0) (record { is = λ i. times_hadamard v }) k l in
    let m = product-at_most v (k / 4) (k % 4) (omega arith) in
    let n = h (k / 4) (omega arith) in
    subst (λ z. unsigned_abs z + 3 < 2 ^ 63) (sym e) (omega (arith, m, n))
