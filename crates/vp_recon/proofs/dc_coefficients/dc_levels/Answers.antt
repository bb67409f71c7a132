use Rattle.std.proofs.Common.{◌≡◌, ◌∙◌, ◌+◌, ◌≤◌, ℕ, ℤ, pos, get_or, unsigned_abs, sym, ap, subst, arith}
use Rattle.vp_recon.proofs.Words.{block_of, coded16, below_eight}
use Rattle.vp_recon.proofs.SumLemmas.{short_coded}
use Rattle.vp_recon.proofs.dc_coefficients.dc_levels.Goals as goal

pub returns-clause-value : goal.returns-clause-value
returns-clause-value c =
    let t = c.args.tokens.now in
    let at : (z : ℤ) (n k : ℕ) → unsigned_abs z ≤ 2114 → z ≡ get_or (block_of t n).levels 0 (pos 0) → n ≡ c.args.first + k → coded16 z ≡ get_or (block_of t (c.args.first + k)).levels 0 (pos 0) =
    λ z n k small is e. short_coded z (omega arith) ∙ is ∙ ap (λ (m : ℕ). get_or (block_of t m).levels 0 (pos 0)) e in
    below_eight _ (at _ _ 0 c.dc_level.ensures.small c.dc_level.ensures.value (omega arith)) (at _ _ 1 c.dc_level-2.ensures.small c.dc_level-2.ensures.value (omega arith))
    (at _ _ 2 c.dc_level-3.ensures.small c.dc_level-3.ensures.value (omega arith)) (at _ _ 3 c.dc_level-4.ensures.small c.dc_level-4.ensures.value (omega arith))
    (at _ _ 4 c.dc_level-5.ensures.small c.dc_level-5.ensures.value (omega arith)) (at _ _ 5 c.dc_level-6.ensures.small c.dc_level-6.ensures.value (omega arith))
    (at _ _ 6 c.dc_level-7.ensures.small c.dc_level-7.ensures.value (omega arith)) (at _ _ 7 c.dc_level-8.ensures.small c.dc_level-8.ensures.value (omega arith))

pub returns-clause-small : goal.returns-clause-small
returns-clause-small c =
    let at : (z : ℤ) → unsigned_abs z ≤ 2114 → unsigned_abs (coded16 z) ≤ 2114 = λ z small. subst (λ (y : ℤ). unsigned_abs y ≤ 2114) (sym (short_coded z (omega arith))) small in
    below_eight _ (at c.dc_level.result c.dc_level.ensures.small) (at c.dc_level-2.result c.dc_level-2.ensures.small) (at c.dc_level-3.result c.dc_level-3.ensures.small) (at c.dc_level-4.result c.dc_level-4.ensures.small)
    (at c.dc_level-5.result c.dc_level-5.ensures.small) (at c.dc_level-6.result c.dc_level-6.ensures.small) (at c.dc_level-7.result c.dc_level-7.ensures.small) (at c.dc_level-8.result c.dc_level-8.ensures.small)
