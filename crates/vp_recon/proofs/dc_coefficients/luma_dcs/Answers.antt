use Rattle.std.proofs.Common.{◌∙◌, ◌^◌, ap, arith}
use Rattle.vp_recon.proofs.Words.{iwht, dequantised, Block}
use Rattle.vp_recon.specs.Residue.{luma_dcs}
use Rattle.vp_recon.proofs.dc_coefficients.luma_dcs.Goals as goal

pub returns-clause-value : goal.returns-clause-value
unfolding luma_dcs
returns-clause-value c =
    c.iwht.ensures.value ∙ ap iwht c.dequant.ensures.value
    ∙ ap (λ (b : Block). iwht (dequantised b.levels c.args.factors.now.y2_dc c.args.factors.now.y2_ac)) (c.behind-tokens.view_is ∙ c.block_of.ensures)

pub returns-clause-within : goal.returns-clause-within
returns-clause-within c i = let e = c.iwht.ensures.within (2 ^ 31) c.dequant.ensures.within i in omega arith
