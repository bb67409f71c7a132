use Rattle.std.proofs.Common.{◌≡◌, ◌∙◌, ℤ, pos, List, ◌∷◌, replicate, get_or, unsigned_abs, sym, ap, arith}
use Rattle.vp_recon.proofs.Words.{Block, coded, coded16, iwht, coefficients_after}
use Rattle.vp_recon.proofs.ResidueLemmas.{exact, y2_even, y2_values}
use Rattle.vp_recon.proofs.SumLemmas.{short_coded}
use Rattle.vp_recon.proofs.dc_coefficients.dcs_from_y2.Goals as goal

pub returns-then-block-le1-clause-value : goal.returns-then-block-le1-clause-value
returns-then-block-le1-clause-value c dcs is k below =
    let b : Block = record { levels = c.block.inside.levels; end = c.block.inside.end } in
    let dc : ℤ = c.scaled_dc-dc.result in
    let z : ℤ = c.iwht_of_dc.result in
    let same = exact dc (omega (arith, c.scaled_dc-dc.ensures.within)) in
    let kept = exact z (omega (arith, c.iwht_of_dc.ensures.within, c.scaled_dc-dc.ensures.within, ap unsigned_abs same)) in
    let all : iwht (dc ∷ replicate 15 (pos 0)) ≡ replicate 16 z =
    ap (λ (y : ℤ). iwht (y ∷ replicate 15 (pos 0))) (sym same) ∙ c.iwht_of_dc.ensures.value in
    let few = c.if-block-le1.true in
    ap (λ (zs : List ℤ). get_or zs k (pos 0)) (c.sixteen_times.ensures.value dcs is ∙ ap (λ (y : ℤ). replicate 16 y) kept
    ∙ sym (y2_even c.args.tokens.now c.args.factors.now c.factors.inside.raw b dc
    c.factors.view_is (c.block.view_is ∙ c.block_of-block.ensures) c.block.invariant c.scaled_dc-dc.ensures.value z few all))

-- the Y2 block's DC coefficient, as it is passed
short : (c : goal.Then-from-le-IDCT_MOST) → coded16 (coded c.scaled_dc-dc.result) ≡ c.scaled_dc-dc.result
short c =
    let same = exact c.scaled_dc-dc.result (omega (arith, c.scaled_dc-dc.ensures.within)) in
    let size = c.unsigned_abs.ensures.value in
    ap (λ (y : ℤ). coded16 y) same ∙ short_coded c.scaled_dc-dc.result (omega (arith, c.if-unsigned_abs-gt-IWHT_MOST.false, size, ap unsigned_abs same))

pub returns-then-from-le-IDCT_MOST-clause-value : goal.returns-then-from-le-IDCT_MOST-clause-value
returns-then-from-le-IDCT_MOST-clause-value c dcs is k below =
    let b : Block = record { levels = c.block.inside.levels; end = c.block.inside.end } in
    let dc : ℤ = c.scaled_dc-dc.result in
    let are : c.iwht_short-dcs.result ≡ dcs = cc in
    ap (λ (zs : List ℤ). get_or zs k (pos 0)) (sym are ∙ c.iwht_short-dcs.ensures.value
    ∙ ap iwht (c.coefficients.ensures.value c.in-Some.coefficients c.factors.inside.raw.y2_ac 8191 c.in-Some.is c.factors.invariant.y2_ac)
    ∙ ap (λ (z : ℤ). iwht (coefficients_after z c.block.inside.levels c.factors.inside.raw.y2_ac)) (short c)
    ∙ sym (y2_values c.args.tokens.now c.args.factors.now c.factors.inside.raw b dc c.factors.view_is (c.block.view_is ∙ c.block_of-block.ensures) c.block.invariant c.scaled_dc-dc.ensures.value))
