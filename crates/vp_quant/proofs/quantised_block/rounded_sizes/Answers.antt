use Rattle.std.proofs.Common.{◌/◌, arith}
use Rattle.vp_lanes.proofs.Signed.{signed_param}
use Rattle.vp_quant.proofs.Reciprocals.{sizes_fit, raised_sizes}
use Rattle.vp_quant.proofs.quantised_block.rounded_sizes.Goals as goal

pub overflow_cast-result : goal.overflow_cast-result
overflow_cast-result c = sizes_fit (signed_param 16 c.args.v _ c.well_formed.0) c.requires

pub returns : goal.returns
returns c =
    let f = c.ranges.factor.fits in
    raised_sizes (signed_param 16 c.args.v _ c.well_formed.0) c.requires (c.args.factor / 2) (omega arith)
