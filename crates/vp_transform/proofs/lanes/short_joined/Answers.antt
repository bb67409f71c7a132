use Rattle.std.proofs.Common.{arith}
use Rattle.vp_transform.proofs.Vectors.{sixteen, short_cast, short_lane}
use Rattle.vp_lanes.proofs.Signed32.{signed_param}
use Rattle.vp_transform.proofs.lanes.short_joined.Goals as goal

pub overflow_cast-a0 : goal.overflow_cast-a0
overflow_cast-a0 c = short_cast c.args.a (signed_param 4 c.args.a _ c.well_formed.0) c.requires.first

pub overflow_cast-b0 : goal.overflow_cast-b0
overflow_cast-b0 c = short_cast c.args.b (signed_param 4 c.args.b _ c.well_formed.1.0) c.requires.second

pub overflow_cast-c0 : goal.overflow_cast-c0
overflow_cast-c0 c = short_cast c.args.c (signed_param 4 c.args.c _ c.well_formed.1.1.0) c.requires.third

pub overflow_cast-d0 : goal.overflow_cast-d0
overflow_cast-d0 c = short_cast c.args.d (signed_param 4 c.args.d _ c.well_formed.1.1.1.0) c.requires.fourth

pub returns : goal.returns
returns g =
    let a = signed_param 4 g.args.a _ g.well_formed.0 in
    let b = signed_param 4 g.args.b _ g.well_formed.1.0 in
    let c = signed_param 4 g.args.c _ g.well_formed.1.1.0 in
    let d = signed_param 4 g.args.d _ g.well_formed.1.1.1.0 in
    sixteen (short_lane g.args.a a g.requires.first 0 (omega arith)) (short_lane g.args.a a g.requires.first 1 (omega arith)) (short_lane g.args.a a g.requires.first 2 (omega arith)) (short_lane g.args.a a g.requires.first 3 (omega arith))
    (short_lane g.args.b b g.requires.second 0 (omega arith)) (short_lane g.args.b b g.requires.second 1 (omega arith)) (short_lane g.args.b b g.requires.second 2 (omega arith)) (short_lane g.args.b b g.requires.second 3 (omega arith))
    (short_lane g.args.c c g.requires.third 0 (omega arith)) (short_lane g.args.c c g.requires.third 1 (omega arith)) (short_lane g.args.c c g.requires.third 2 (omega arith)) (short_lane g.args.c c g.requires.third 3 (omega arith))
    (short_lane g.args.d d g.requires.fourth 0 (omega arith)) (short_lane g.args.d d g.requires.fourth 1 (omega arith)) (short_lane g.args.d d g.requires.fourth 2 (omega arith)) (short_lane g.args.d d g.requires.fourth 3 (omega arith))
