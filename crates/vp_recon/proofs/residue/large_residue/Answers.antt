use Rattle.std.proofs.Common.{◌∙◌, ◌^◌, ◌≤◌, ℤ, pos, List, set, get_or, unsigned_abs, ap, subst, arith}
use Rattle.vp_recon.proofs.Words.{idct_fits, coded, idct, Block, dequantised, HasEqualSums}
use Rattle.vp_recon.proofs.SumLemmas.{cut_kept}
use Rattle.vp_recon.proofs.ResidueLemmas.{exact, within_set}
use Rattle.vp_recon.proofs.residue.large_residue.Goals as goal

pub idct_cut-requires : goal.idct_cut-requires
idct_cut-requires c =
    let dc : ℤ = c.args.dc in
    let small : unsigned_abs (coded dc) ≤ 2 ^ 40 = omega (arith, ap unsigned_abs (exact dc c.requires), c.requires) in
    let coefficients : List ℤ = c.dequant-coefficients.result in
    idct_fits (2 ^ 40) (set coefficients 0 (coded dc))
    (within_set (2 ^ 40) coefficients 0 (coded dc)
    (λ i. let e : unsigned_abs (get_or coefficients i (pos 0)) ≤ 2 ^ 40 = omega (arith, c.dequant-coefficients.ensures.within i) in e) small)
    (omega arith)

pub returns-clause-value : goal.returns-clause-value
returns-clause-value c =
    let dc : ℤ = c.args.dc in
    let coefficients : List ℤ = c.dequant-coefficients.result in
    c.held.ensures.value (idct (set (dequantised c.args.block.now.levels 0 c.args.ac) 0 dc))
    (subst (λ (zs : List ℤ). HasEqualSums c.idct_cut.result (idct zs))
    (ap (λ (z : ℤ). set coefficients 0 z) (exact dc c.requires) ∙ ap (λ (zs : List ℤ). set zs 0 dc) c.dequant-coefficients.ensures.value
    ∙ ap (λ (b : Block). set (dequantised b.levels 0 c.args.ac) 0 dc) c.block.view_is)
    (cut_kept c.idct_cut.result (idct (set coefficients 0 (coded dc)))
    c.idct_cut.ensures))
