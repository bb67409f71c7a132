use Rattle.std.proofs.Common.{arith}
use Rattle.vp_scale.proofs.LaneLemmas.{below_four, back}
use Rattle.vp_scale.proofs.lanes.first_lanes.Goals as goal

pub returns-clause-back : goal.returns-clause-back
returns-clause-back c =
    below_four _
    (back c.args.a c.args.b 0 8 c.fits-a.0 (omega arith))
    (back c.args.a c.args.b 2 10 c.fits-a.0 (omega arith))
    (back c.args.a c.args.b 4 12 c.fits-a.0 (omega arith))
    (back c.args.a c.args.b 6 14 c.fits-a.0 (omega arith))
