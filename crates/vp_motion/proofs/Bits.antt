-- The bits of a number below 1,024.
use Rattle.std.proofs.Common.{◌≡◌, ◌∙◌, ℕ, zero, suc, ◌+◌, ◌*◌, ◌/◌, ◌%◌, ◌<◌, ◌≤◌, ◌^◌, cond, eqb, nat_lt, refl, sym, arith, inl, inr}
use Rattle.std.proofs.lemmas.Bool.{cases_Bool, ltb-true, lt-ltb, le-ltb, ltb-false}
use Rattle.vp_motion.specs.Spelled.{bit_of}

of_remainder : (r p : ℕ) → r < 2 → cond (eqb r 1) p 0 ≡ p * r
of_remainder zero p h = omega arith
of_remainder (suc zero) p h = omega arith
of_remainder (suc (suc r)) p h = absurd (omega arith)

bit_is : (n i : ℕ) → bit_of n i ≡ 2 ^ i * (n / 2 ^ i % 2)
bit_is n i = of_remainder (n / 2 ^ i % 2) (2 ^ i) (omega arith)

one_times : (r : ℕ) → 2 ^ 0 * r ≡ r
one_times r = omega arith

added : (l m a b c d e f r s t u v w : ℕ) → l ≡ m → a ≡ r → b ≡ s → c ≡ t → d ≡ u → e ≡ v → f ≡ w → l + a + b + c + d + e + f ≡ m + r + s + t + u + v + w
added l m a b c d e f r s t u v w hl ha hb hc hd he hf = omega arith

gathered : (low q4 q5 q6 q7 q8 q9 r4 r5 r6 r7 r8 : ℕ) → q4 ≡ 2 * q5 + r4 → q5 ≡ 2 * q6 + r5 → q6 ≡ 2 * q7 + r6 → q7 ≡ 2 * q8 + r7 → q8 ≡ 2 * q9 + r8 → q9 % 2 ≡ q9
    → low + 512 * (q9 % 2) + 256 * r8 + 128 * r7 + 64 * r6 + 32 * r5 + 16 * r4 ≡ low + 16 * q4
gathered low q4 q5 q6 q7 q8 q9 r4 r5 r6 r7 r8 h4 h5 h6 h7 h8 h9 = omega arith

-- 8 to 15 have it
pub implied : (n : ℕ) → 8 ≤ n → n ≤ 15 → bit_of n 3 ≡ 8
implied n least most = let e : n / 8 % 2 ≡ 1 = omega arith in rw e refl

abbrev low_of : ℕ → ℕ
low_of n = bit_of n 0 + bit_of n 1 + bit_of n 2

low_bits : (n : ℕ) → low_of n ≡ n % 8
low_bits n =
    let b0 : bit_of n 0 ≡ n / 1 % 2 = bit_is n 0 ∙ one_times (n / 1 % 2) in
    omega (arith, b0, bit_is n 1, bit_is n 2)

abbrev pub others_of : ℕ → ℕ
others_of n = low_of n + bit_of n 9 + bit_of n 8 + bit_of n 7 + bit_of n 6 + bit_of n 5 + bit_of n 4

others : (n : ℕ) → n ≤ 1023 → others_of n ≡ n % 8 + 16 * (n / 16)
others n most =
    let e5 : n / 32 ≡ 2 * (n / 64) + n / 32 % 2 = omega arith in
    let e6 : n / 64 ≡ 2 * (n / 128) + n / 64 % 2 = omega arith in
    let e7 : n / 128 ≡ 2 * (n / 256) + n / 128 % 2 = omega arith in
    let e8 : n / 256 ≡ 2 * (n / 512) + n / 256 % 2 = omega arith in
    let e9 : n / 512 % 2 ≡ n / 512 = omega arith in
    let e4 : n / 16 ≡ 2 * (n / 32) + n / 16 % 2 = omega arith in
    let s = added (low_of n) (n % 8) _ _ _ _ _ _ _ _ _ _ _ _ (low_bits n) (bit_is n 9) (bit_is n 8) (bit_is n 7) (bit_is n 6) (bit_is n 5) (bit_is n 4) in
    s ∙ gathered (n % 8) (n / 16) (n / 32) (n / 64) (n / 128) (n / 256) (n / 512) _ _ _ _ _ e4 e5 e6 e7 e8 e9

pub all_bits : (n : ℕ) → n ≤ 1023 → others_of n + bit_of n 3 ≡ n
all_bits n most =
    let e : n % 8 + 16 * (n / 16) + 8 * (n / 8 % 2) ≡ n = omega arith in
    (λ i. others n most i + bit_is n 3 i) ∙ e

-- a bit above bit 3 is set in 16 and more
pub others_long : (n : ℕ) → 8 ≤ n → n ≤ 1023 → nat_lt 15 (others_of n) ≡ nat_lt 15 n
others_long n least most =
    let e = others n most in
    elim (cases_Bool (nat_lt 15 n)) [
      | inl t ↦ let h = ltb-true 15 n t in let m : 15 < others_of n = omega arith in lt-ltb 15 (others_of n) m ∙ sym t
      | inr f ↦ let h = ltb-false 15 n f in let m : others_of n ≤ 15 = omega arith in le-ltb 15 (others_of n) m ∙ sym f
    ]
