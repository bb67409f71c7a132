use Rattle.vp_lanes.proofs.Signed.{signed_param}
use Rattle.vp_quant.proofs.Reciprocals.{sizes_fit, plain_sizes}
use Rattle.vp_quant.proofs.magnitudes.sizes.Goals as goal

pub overflow_cast-result : goal.overflow_cast-result
overflow_cast-result g c = sizes_fit (signed_param g.row.N c.args.v _ c.well_formed.0) c.requires

pub returns : goal.returns
returns g c = plain_sizes (signed_param g.row.N c.args.v _ c.well_formed.0) c.requires
