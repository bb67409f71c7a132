use Rattle.std.proofs.Common.{◌≡◌, ◌∙◌, ◌≤◌, ◌^◌, ◌*ℤ◌, ℤ, pos, List, replicate, get_or, unsigned_abs, sym, ap, subst, arith}
use Rattle.vp_recon.proofs.Words.{idct-within, Factors, residue, dequantised, coefficients_after, idct, rounded, coded, Block, IsBlock, HasUpTo, HasEqualSums, AreLow}
use Rattle.vp_recon.proofs.SumLemmas.{equal_sums, short_coded}
use Rattle.vp_recon.proofs.ResidueLemmas.{exact, from_level, even_residue}
use Rattle.vp_recon.proofs.residue.own_residue.Goals as goal

-- the coefficients by the DC coefficient that is computed
made : (b a : Block) (f g : Factors) (dc : ℤ) → b ≡ a → f ≡ g → dc ≡ get_or b.levels 0 (pos 0) *ℤ pos f.y_dc → unsigned_abs dc ≤ 2 ^ 31
    → coefficients_after (coded dc) a.levels f.y_ac ≡ dequantised a.levels g.y_dc g.y_ac
made b a f g dc same factors is small =
    from_level a.levels f.y_dc f.y_ac (coded dc) (exact dc (omega (arith, small)) ∙ is ∙ ap (λ (d : Block). get_or d.levels 0 (pos 0) *ℤ pos f.y_dc) same) ∙ ap (λ (h : Factors). dequantised a.levels h.y_dc h.y_ac) factors

pub returns-then-unsigned_abs-gt-IDCT_MOST-clause-value : goal.returns-then-unsigned_abs-gt-IDCT_MOST-clause-value
returns-then-unsigned_abs-gt-IDCT_MOST-clause-value c = subst (λ (zs : List ℤ). HasEqualSums c.large_residue.result (idct zs)) (made _ _ _ _ _ c.block.view_is c.factors.view_is c.scaled_dc-dc.ensures.value c.scaled_dc-dc.ensures.within) c.large_residue.ensures.value

pub returns-then-block-le1-clause-value : goal.returns-then-block-le1-clause-value
returns-then-block-le1-clause-value c =
    let f = c.factors.inside.raw in
    let b : Block = c.args.block.now in
    let first : ℤ = coded c.scaled_dc-dc.result in
    let small : unsigned_abs (coded c.scaled_dc-dc.result) ≤ 2200 = let e = c.unsigned_abs.ensures.value in omega (arith, e, c.if-unsigned_abs-gt-IDCT_MOST.false) in
    let few : HasUpTo 1 c.args.block.now = (subst IsBlock c.block.view_is c.block.invariant, (let e : c.block.inside.end ≡ c.args.block.now.end = ap (λ (a : Block). a.end) c.block.view_is in omega (arith, e, c.if-block-le1.true))) in
    equal_sums _ (residue b.levels c.args.factors.now.y_dc c.args.factors.now.y_ac)
    (ap (λ (z : ℤ). replicate 16 z) (short_coded c.dc_residue.result (let w = c.dc_residue.ensures.within in omega arith) ∙ c.dc_residue.ensures.value
    ∙ ap (λ (z : ℤ). rounded z) (short_coded first (omega arith)))
    ∙ sym (even_residue b few first f.y_ac)
    ∙ ap idct (made _ _ _ _ _ c.block.view_is c.factors.view_is c.scaled_dc-dc.ensures.value c.scaled_dc-dc.ensures.within))

pub returns-in-None-clause-value : goal.returns-in-None-clause-value
returns-in-None-clause-value c = subst (λ (zs : List ℤ). HasEqualSums c.large_residue-in-None.result (idct zs)) (made _ _ _ _ _ c.block.view_is c.factors.view_is c.scaled_dc-dc.ensures.value c.scaled_dc-dc.ensures.within) c.large_residue-in-None.ensures.value

pub returns-in-Some-clause-value : goal.returns-in-Some-clause-value
returns-in-Some-clause-value c =
    let f = c.factors.inside.raw in
    let first : ℤ = coded c.scaled_dc-dc.result in
    let small : unsigned_abs (coded c.scaled_dc-dc.result) ≤ 2200 = let e = c.unsigned_abs.ensures.value in omega (arith, e, c.if-unsigned_abs-gt-IDCT_MOST.false) in
    equal_sums c.idct_short.result (residue c.args.block.now.levels c.args.factors.now.y_dc c.args.factors.now.y_ac)
    (c.idct_short.ensures ∙ ap idct (c.coefficients.ensures.value c.in-Some.coefficients f.y_ac 2200 c.in-Some.is c.factors.invariant.y_ac
    ∙ ap (λ (z : ℤ). coefficients_after z c.block.inside.levels f.y_ac) (short_coded first (omega arith)) ∙ ap (λ (a : Block). coefficients_after first a.levels f.y_ac) c.block.view_is
    ∙ made _ _ _ _ _ c.block.view_is c.factors.view_is c.scaled_dc-dc.ensures.value c.scaled_dc-dc.ensures.within))

pub returns-in-Some-clause-low : goal.returns-in-Some-clause-low
returns-in-Some-clause-low c =
    let first : ℤ = coded c.scaled_dc-dc.result in
    let small : unsigned_abs (coded c.scaled_dc-dc.result) ≤ 2200 = let e = c.unsigned_abs.ensures.value in omega (arith, e, c.if-unsigned_abs-gt-IDCT_MOST.false) in
    subst (λ (zs : List ℤ). AreLow 16 zs) (sym c.idct_short.ensures)
    (λ j h. idct-within 2200 c.in-Some.coefficients (c.coefficients.ensures.small c.in-Some.coefficients c.factors.inside.raw.y_ac 2200 c.in-Some.is c.factors.invariant.y_ac
    (subst (λ (z : ℤ). unsigned_abs z ≤ 2200) (sym (short_coded first (omega arith))) small)) j)
