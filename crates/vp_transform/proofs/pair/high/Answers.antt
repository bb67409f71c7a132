use Rattle.std.proofs.Common.{pos, arith}
use Rattle.vp_lanes.specs.Lane.{lane}
use Rattle.vp_lanes.proofs.Signed.{signed_param}
use Rattle.vp_lanes.proofs.Signed32.{signed_splat, stands_pos, signed_mul, signed_shr}
use Rattle.vp_transform.proofs.Eights.{sfits16, widened16, to_shorts_fit, to_shorts_out, product_long, high_short}
use Rattle.vp_transform.proofs.pair.high.Goals as goal

pub overflow_cast-result-3 : goal.overflow_cast-result-3
overflow_cast-result-3 c =
    let z = signed_param 8 c.args.z _ c.well_formed.0 in
    to_shorts_fit (signed_shr (signed_mul (widened16 8 c.args.z _ c.well_formed.0) (signed_splat 8 c.args.k (pos c.args.k) (stands_pos c.args.k (omega (arith, c.requires))))
    (λ j h. product_long (lane c.args.z j) c.args.k (sfits16 (z.at j h)) c.requires)) 16)
    (λ j h. high_short (lane c.args.z j) c.args.k (sfits16 (z.at j h)) c.requires)

pub returns : goal.returns
returns c =
    let z = signed_param 8 c.args.z _ c.well_formed.0 in
    to_shorts_out (signed_shr (signed_mul (widened16 8 c.args.z _ c.well_formed.0) (signed_splat 8 c.args.k (pos c.args.k) (stands_pos c.args.k (omega (arith, c.requires))))
    (λ j h. product_long (lane c.args.z j) c.args.k (sfits16 (z.at j h)) c.requires)) 16)
    (λ j h. high_short (lane c.args.z j) c.args.k (sfits16 (z.at j h)) c.requires)
