use Rattle.vp_lanes.proofs.Signed.{signed_param}
use Rattle.vp_quant.proofs.Reciprocals.{levels_fit, signed_levels}
use Rattle.vp_quant.proofs.quantised_block.with_signs.Goals as goal

pub overflow_cast-levels : goal.overflow_cast-levels
overflow_cast-levels c = levels_fit c.args.sizes (signed_param 16 c.args.signs _ c.well_formed.1.0) c.fits-sizes.0

pub returns : goal.returns
returns c = signed_levels c.args.sizes (signed_param 16 c.args.signs _ c.well_formed.1.0) c.fits-sizes.0
