-- A vector in one word.
use Rattle.std.proofs.Common.{◌≡◌, ◌∙◌, ℕ, ◌+◌, ◌*◌, ◌%◌, ◌/◌, ◌<◌, nat_eq, ap, sym, arith, inl, inr, to_z, of_z, w32}
use Rattle.std.proofs.lemmas.Int.{ints, of_z-to_z}
use Rattle.std.proofs.lemmas.Bool.{cases_Bool, eqb-true, eqb-false}
use Rattle.vp_motion.specs.Vector.{Vector, IsSmall}
use Rattle.vp_motion.specs.Near.{same}
use Rattle.vp_motion.specs.Packed.{unpacked}
use Rattle.vp_motion.proofs.Counts.{same-same, same-true}

abbrev packed : Vector → ℕ
packed v = of_z w32 v.row + of_z w32 v.column * 4294967296

packed-unpacked : (n : ℕ) → n < 18446744073709551616 → packed (unpacked n) ≡ n
unfolding unpacked
packed-unpacked n h =
    let low : n % 4294967296 < 4294967296 = omega arith in
    let high : n / 4294967296 < 4294967296 = omega arith in
    let p : of_z w32 (to_z w32 (n % 4294967296)) ≡ n % 4294967296 = of_z-to_z w32 (n % 4294967296) low in
    let q : of_z w32 (to_z w32 (n / 4294967296)) ≡ n / 4294967296 = of_z-to_z w32 (n / 4294967296) high in
    let whole : n % 4294967296 + n / 4294967296 * 4294967296 ≡ n = omega arith in
    (λ i. p i + q i * 4294967296) ∙ whole

pub unpacked-is : (v : Vector) (m n : ℕ) → IsSmall v → m ≡ of_z w32 (to_z w32 (of_z w32 v.row)) → n ≡ of_z w32 (to_z w32 (of_z w32 v.column)) → unpacked (m + n * 4294967296) ≡ v
unfolding unpacked
unpacked-is v m n b r s =
    let x : of_z w32 v.row < 4294967296 = omega (arith, ints, b) in
    let y : of_z w32 v.column < 4294967296 = omega (arith, ints, b) in
    let row : to_z w32 (of_z w32 v.row) ≡ v.row = omega (arith, ints, b) in
    let column : to_z w32 (of_z w32 v.column) ≡ v.column = omega (arith, ints, b) in
    let p : m ≡ of_z w32 v.row = r ∙ ap (of_z w32) row in
    let q : n ≡ of_z w32 v.column = s ∙ ap (of_z w32) column in
    let low : (m + n * 4294967296) % 4294967296 ≡ m = omega (arith, p, x) in
    let high : (m + n * 4294967296) / 4294967296 ≡ n = omega (arith, p, x) in
    λ i. record { row = (ap (to_z w32) (low ∙ p) ∙ row) i; column = (ap (to_z w32) (high ∙ q) ∙ column) i }

-- Two vectors are the same if their bits are.
pub same-bits : (m n : ℕ) → m < 18446744073709551616 → n < 18446744073709551616 → nat_eq m n ≡ same (unpacked m) (unpacked n)
same-bits m n h k = elim (cases_Bool (nat_eq m n)) [
  | inl t ↦ let e : m ≡ n = eqb-true m n t in t ∙ sym (rw e (same-same (unpacked n)))
  | inr f ↦ f ∙ elim (cases_Bool (same (unpacked m) (unpacked n))) [
    | inl s ↦
        let e : m ≡ n = sym (packed-unpacked m h) ∙ ap packed (same-true (unpacked m) (unpacked n) s) ∙ packed-unpacked n k in
        absurd (eqb-false m n f e)
    | inr d ↦ sym d
  ]
]
