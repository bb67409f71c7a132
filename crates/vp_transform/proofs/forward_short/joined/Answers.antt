use Rattle.std.proofs.Common.{arith}
use Rattle.vp_lanes.proofs.Signed.{signed_param}
use Rattle.vp_transform.proofs.Shorts.{lane_kept}
use Rattle.vp_transform.proofs.Vectors.{sixteen}
use Rattle.vp_transform.proofs.forward_short.joined.Goals as goal

pub returns : goal.returns
returns g =
    let a = lane_kept g.args.a (signed_param 4 g.args.a _ g.well_formed.0) in
    let b = lane_kept g.args.b (signed_param 4 g.args.b _ g.well_formed.1.0) in
    let c = lane_kept g.args.c (signed_param 4 g.args.c _ g.well_formed.1.1.0) in
    let d = lane_kept g.args.d (signed_param 4 g.args.d _ g.well_formed.1.1.1.0) in
    sixteen
    (a 0 (omega arith)) (a 1 (omega arith)) (a 2 (omega arith)) (a 3 (omega arith))
    (b 0 (omega arith)) (b 1 (omega arith)) (b 2 (omega arith)) (b 3 (omega arith))
    (c 0 (omega arith)) (c 1 (omega arith)) (c 2 (omega arith)) (c 3 (omega arith))
    (d 0 (omega arith)) (d 1 (omega arith)) (d 2 (omega arith)) (d 3 (omega arith))
