use Rattle.std.proofs.Common.{◌∙◌, ◌*ℤ◌, ℤ, pos, ap, arith}
use Rattle.vp_transform.proofs.Eights.{passed16}
use Rattle.vp_recon.proofs.SumLemmas.{low_handed}
use Rattle.vp_recon.proofs.dc_coefficients.eight_dcs.Goals as goal

pub products-requires : goal.products-requires
products-requires c j h = let l = low_handed 8 c.dc_levels.result (λ i k. let s = c.dc_levels.ensures.small i k in omega arith) j h in omega arith

pub returns-clause-value : goal.returns-clause-value
returns-clause-value c dcs dc is ready k h =
    c.products.ensures.value dcs dc 2200 is ready k h
    ∙ ap (λ (z : ℤ). z *ℤ pos dc) (passed16 c.dc_levels.result k 2114 (omega arith) (c.dc_levels.ensures.small k h) ∙ c.dc_levels.ensures.value k h)
