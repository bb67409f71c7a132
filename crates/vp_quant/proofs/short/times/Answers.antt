use Rattle.vp_lanes.proofs.Signed.{signed_param, signed_splat, signed_mul, signed_out, stands_of}
use Rattle.vp_quant.proofs.Sixteen.{short_of}
use Rattle.vp_quant.proofs.short.times.Goals as goal

pub returns : goal.returns
returns g c small j h =
    let n = g.row.N in
    signed_out (signed_mul (signed_param n c.args.v _ c.well_formed.0) (signed_splat n _ c.args.factor (stands_of c.args.factor c.ranges.factor))
    (λ k below. short_of _ (small k below))) j h
