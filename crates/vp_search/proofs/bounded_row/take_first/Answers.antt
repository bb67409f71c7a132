use Rattle.std.proofs.Common.{◌≡◌, ℕ, ◌*◌, ◌%◌, ◌^◌, ◌≤◌, sym, ap, ◌∙◌, arith, inl, inr}
use Rattle.std.proofs.lemmas.Bool.{cases_lt}
use Rattle.std.proofs.lemmas.Nat.{and_le_l}
use Rattle.std.proofs.lemmas.Nat.Bits.{bit_at-trailing_zeros, bit_at_clear_same, bit_at_clear_other}
use Rattle.std.specs.Int.{bit_at, bit_not, trailing_zeros}
use Rattle.std.specs.Prelude.{bit_and}
use mir.Syntax.{w64}
use Rattle.vp_search.proofs.SumLanes.{bit_within}
use Rattle.vp_search.proofs.bounded_row.take_first.Goals as goal

pub returns-clause-place : goal.returns-clause-place
returns-clause-place c =
    let lowest = bit_at-trailing_zeros w64 c.args.places c.requires.some c.ranges.places.fits in
    bit_within c.args.places (trailing_zeros w64 c.args.places) c.requires.eight lowest.1

pub returns-clause-fewer : goal.returns-clause-fewer
returns-clause-fewer c =
    let n : ℕ = c.args.places in
    let k : ℕ = trailing_zeros w64 n in
    let rest : ℕ = bit_and n (bit_not w64 (1 * 2 ^ k % 2 ^ 64)) in
    let lowest = bit_at-trailing_zeros w64 n c.requires.some c.ranges.places.fits in
    let most : rest ≤ n = and_le_l n (bit_not w64 (1 * 2 ^ k % 2 ^ 64)) in
    elim (cases_lt rest n) [
      | inl less ↦ less
      | inr more ↦
          let same : rest ≡ n = omega arith in
          let clear : bit_at rest k ≡ 0 = bit_at_clear_same w64 n k lowest.0 in
          let one : bit_at rest k ≡ 1 = ap (λ (m : ℕ). bit_at m k) same ∙ lowest.1 in
          absurd (omega (arith, clear, one))
    ]

pub returns-clause-others : goal.returns-clause-others
returns-clause-others c j h clear other =
    let n : ℕ = c.args.places in
    let k : ℕ = trailing_zeros w64 n in
    let lowest = bit_at-trailing_zeros w64 n c.requires.some c.ranges.places.fits in
    sym (bit_at_clear_other w64 n k lowest.0 j (omega arith) other) ∙ clear
