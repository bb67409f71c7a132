use Rattle.std.proofs.Common.{arith}
use Rattle.vp_scale.proofs.LaneLemmas.{below_four, back}
use Rattle.vp_scale.proofs.lanes.second_lanes.Goals as goal

pub returns-clause-back : goal.returns-clause-back
returns-clause-back c =
    below_four _
    (back c.args.a c.args.b 1 9 c.fits-a.0 (omega arith))
    (back c.args.a c.args.b 3 11 c.fits-a.0 (omega arith))
    (back c.args.a c.args.b 5 13 c.fits-a.0 (omega arith))
    (back c.args.a c.args.b 7 15 c.fits-a.0 (omega arith))
