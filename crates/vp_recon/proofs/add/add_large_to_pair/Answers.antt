use Rattle.std.proofs.Common.{◌≡◌, ◌∙◌, ◌+◌, ◌≤◌, ◌^◌, ℕ, ℤ, pos, List, [], ◌∷◌, get_or, unsigned_abs, ap, subst, arith}
use Rattle.vp_recon.proofs.Words.{block_of, coefficients_after, idct, coded, coded16, HasEqualSums, large_residue_in, residue_by}
use Rattle.vp_recon.proofs.ResidueLemmas.{exact}
use Rattle.vp_recon.proofs.SumLemmas.{below_two, short_coded}
use Rattle.vp_recon.proofs.StripLemmas.{added_alike}
use Rattle.vp_recon.proofs.add.add_large_to_pair.Goals as goal

pub returns-then-unsigned_abs-gt-IDCT_MOST : goal.returns-then-unsigned_abs-gt-IDCT_MOST
returns-then-unsigned_abs-gt-IDCT_MOST c =
    let r = c.args.inputs.now in
    let k : ℕ = c.args.k in
    c.add_numbers_to_pair.ensures (λ i. large_residue_in r (k + i))
    (subst (λ (n : ℕ). HasEqualSums c.clamped_residue.result (large_residue_in r n)) (omega arith) c.clamped_residue.ensures.value) c.clamped_residue-then-unsigned_abs-gt-IDCT_MOST.ensures.value

-- a small number, as it is passed
passed : (z : ℤ) → unsigned_abs (coded z) ≤ 2200 → unsigned_abs z ≤ 2 ^ 40 → coded16 (coded z) ≡ z
passed z small fits =
    let same = exact z fits in
    ap (λ (y : ℤ). coded16 y) same ∙ short_coded z (omega (arith, small, ap unsigned_abs same))

pub returns : goal.returns
returns c =
    let r = c.args.inputs.now in
    let k : ℕ = c.args.k in
    let left = c.unsigned_abs.ensures.value in
    let right = c.unsigned_abs-else-unsigned_abs-gt-IDCT_MOST.ensures.value in
    let two : List ℤ = coded16 (coded (get_or r.dcs k (pos 0))) ∷ coded16 (coded (get_or r.dcs (k + 1) (pos 0))) ∷ [] in
    added_alike 8 _ _ _ _ (λ i. residue_by r.tokens.now (r.first + k) two r.ac (0 + i)) (λ i. large_residue_in r (k + i))
    (λ i below.
    ap (λ (y : ℤ). idct (coefficients_after y (block_of r.tokens.now (r.first + k + (0 + i))).levels r.ac))
    (below_two (λ j. get_or two (0 + j) (pos 0) ≡ get_or r.dcs (k + j) (pos 0)) (passed (get_or r.dcs k (pos 0)) (omega (arith, left, c.if-unsigned_abs-gt-IDCT_MOST.false)) (r.within k) ∙ ap (λ (n : ℕ). get_or r.dcs n (pos 0)) (let e : k ≡ k + 0 = omega arith in e))
    (passed (get_or r.dcs (k + 1) (pos 0)) (omega (arith, right, c.if-unsigned_abs-gt-IDCT_MOST-2.false)) (r.within (k + 1))) i (omega arith))
    ∙ ap (λ (n : ℕ). idct (coefficients_after (get_or r.dcs (k + i) (pos 0)) (block_of r.tokens.now n).levels r.ac)) (let e : r.first + k + (0 + i) ≡ r.first + (k + i) = omega arith in e))
    c.add_to_pair.ensures
