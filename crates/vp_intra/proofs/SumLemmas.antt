-- Sums of bytes in lanes.
use Rattle.std.proofs.Common.{◌≡◌, ◌∙◌, ℕ, ◌+◌, ◌*◌, ◌<◌, ◌≤◌, List, [], ◌∷◌, map, length, sum, fold, refl, sym, ap, arith, Fits, w8, zero-add}
use lib.Lanes.{Each1, sum_l}
use mir.Syntax.{unsigned, cast, w16}
use borrow.Rule.Simd.Lanes.{act1}
use borrow.Table.Row.{s_int}

abbrev pub widened : List ℕ → List ℕ
widened xs = map (act1 (cast unsigned unsigned w16) (s_int w8) (s_int w16)) xs

from_front : (a : ℕ) (xs : List ℕ) → fold ◌+◌ a xs ≡ a + sum_l xs
from_front a [] = omega arith
from_front a (x ∷ xs) = from_front (a + x) xs ∙ (let e : a + x + sum_l xs ≡ a + (x + sum_l xs) = omega arith in e)

sum-sum_l : (xs : List ℕ) → sum xs ≡ sum_l xs
sum-sum_l xs = from_front 0 xs ∙ zero-add (sum_l xs)

same_lanes : (xs : List ℕ) → sum_l (widened xs) ≡ sum_l xs
same_lanes [] = refl
same_lanes (x ∷ xs) = ap (λ (s : ℕ). x + s) (same_lanes xs)

pub sum-widened : (xs : List ℕ) → sum_l (widened xs) ≡ sum xs
sum-widened xs = same_lanes xs ∙ sym (sum-sum_l xs)

lanes_bound : (xs : List ℕ) → Each1 (Fits w8) xs → sum_l xs ≤ 255 * length xs
lanes_bound [] all = omega arith
lanes_bound (x ∷ xs) all = let byte : x < 256 = all.0.fits in let rest = lanes_bound xs all.1 in omega (arith, rest)

pub sum_of_bytes : (xs : List ℕ) → Each1 (Fits w8) xs → sum xs ≤ 255 * length xs
sum_of_bytes xs all = omega (arith, sum-sum_l xs, lanes_bound xs all)
