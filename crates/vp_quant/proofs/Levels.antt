-- The level of a coefficient.
use Rattle.std.proofs.Common.{◌≡◌, ℕ, zero, suc, ◌+◌, ◌*◌, ◌/◌, ◌%◌, ◌<◌, ◌≤◌, ◌≤ℤ◌, ◌<ℤ◌, ℤ, pos, negsuc, neg_ℤ, ◌-ℤ◌, ◌*ℤ◌, unsigned_abs, to_z, of_z, w16, ap, ◌∙◌, refl, arith}
use Rattle.std.proofs.lemmas.Int.{ints}
use Rattle.std.proofs.lemmas.Nat.{div-add-mod', mod_below, div_below}
use Rattle.std.proofs.Math.IntN.{negsuc-*ℤ-pos}
use Rattle.vp_quant.specs.Level.{quantised_magnitude, quantised}

plain : (r : ℕ) → r ≤ 2047 → to_z w16 r ≡ pos r
plain r h = omega (arith, ints)

negated : (r : ℕ) → r ≤ 2047 → to_z w16 (of_z w16 (pos 0 -ℤ to_z w16 r)) ≡ neg_ℤ (pos r)
negated r h = omega (arith, ints)

small : (q n : ℕ) → quantised_magnitude q n ≤ 2047
small q n = omega arith

pub quantised-negative : (c : ℤ) (q r : ℕ) → c <ℤ pos 0 → r ≡ quantised_magnitude q (unsigned_abs c) → to_z w16 (of_z w16 (pos 0 -ℤ to_z w16 r)) ≡ quantised c q
unfolding quantised
quantised-negative (pos n) q r less e = absurd (omega (arith, ints))
quantised-negative (negsuc n) q r less e = let h : r ≤ 2047 = omega (arith, small q (suc n)) in negated r h ∙ ap (λ k. neg_ℤ (pos k)) e

pub quantised-other : (c : ℤ) (q r : ℕ) → pos 0 ≤ℤ c → r ≡ quantised_magnitude q (unsigned_abs c) → to_z w16 r ≡ quantised c q
unfolding quantised
quantised-other (pos n) q r more e = let h : r ≤ 2047 = omega (arith, small q n) in plain r h ∙ ap pos e
quantised-other (negsuc n) q r more e = absurd (omega (arith, ints))

-- what is left of a size, over and under
left : (n q l : ℕ) → 1 ≤ q → l ≡ (n + q / 2) / q → (2 * n ≤ 2 * (l * q) + q) × (2 * (l * q) ≤ 2 * n + q)
left n q l some e =
    let whole : (n + q / 2) / q * q + (n + q / 2) % q ≡ n + q / 2 = div-add-mod' (n + q / 2) q in
    let same : l * q ≡ (n + q / 2) / q * q = ap (λ k. k * q) e in
    let below : (n + q / 2) % q < q = mod_below (n + q / 2) q (omega arith) in
    (omega arith, omega arith)

large : (n q : ℕ) → 1 ≤ q → n ≤ 2047 * q → (n + q / 2) / q ≤ 2047
large n q some h =
    let below : (n + q / 2) / q < 2048 = div_below (n + q / 2) q 2048 (omega arith) (omega arith) in
    omega arith

negative_product : (l q : ℕ) → neg_ℤ (pos l) *ℤ pos q ≡ neg_ℤ (pos (l * q))
negative_product zero q = omega (arith, ints)
negative_product (suc l) q = negsuc-*ℤ-pos l q

pub nearest-negative : (c : ℤ) (q : ℕ) → 1 ≤ q → c <ℤ pos 0 → unsigned_abs c ≤ 2047 * q → 2 * unsigned_abs (c -ℤ quantised c q *ℤ pos q) ≤ q
unfolding quantised
nearest-negative (pos n) q some less h = absurd (omega (arith, ints))
nearest-negative (negsuc n) q some less h =
    let l = (suc n + q / 2) / q in
    let few : quantised_magnitude q (suc n) ≡ l = omega (arith, large (suc n) q some h) in
    let sides = left (suc n) q l some refl in
    let product : neg_ℤ (pos l) *ℤ pos q ≡ neg_ℤ (pos (l * q)) = negative_product l q in
    rw (few, product) (omega (arith, ints, sides.0, sides.1))
