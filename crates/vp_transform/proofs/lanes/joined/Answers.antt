use Rattle.std.proofs.Common.{arith}
use Rattle.vp_transform.proofs.Vectors.{sixteen, widened_lane}
use Rattle.vp_lanes.proofs.Signed32.{signed_param}
use Rattle.vp_transform.proofs.lanes.joined.Goals as goal

pub returns : goal.returns
returns g =
    let a = signed_param 4 g.args.a _ g.well_formed.0 in
    let b = signed_param 4 g.args.b _ g.well_formed.1.0 in
    let c = signed_param 4 g.args.c _ g.well_formed.1.1.0 in
    let d = signed_param 4 g.args.d _ g.well_formed.1.1.1.0 in
    sixteen (widened_lane a 0 (omega arith)) (widened_lane a 1 (omega arith)) (widened_lane a 2 (omega arith)) (widened_lane a 3 (omega arith))
    (widened_lane b 0 (omega arith)) (widened_lane b 1 (omega arith)) (widened_lane b 2 (omega arith)) (widened_lane b 3 (omega arith))
    (widened_lane c 0 (omega arith)) (widened_lane c 1 (omega arith)) (widened_lane c 2 (omega arith)) (widened_lane c 3 (omega arith))
    (widened_lane d 0 (omega arith)) (widened_lane d 1 (omega arith)) (widened_lane d 2 (omega arith)) (widened_lane d 3 (omega arith))
