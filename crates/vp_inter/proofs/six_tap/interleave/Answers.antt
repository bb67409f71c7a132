use Rattle.std.proofs.Common.{lit<}
use Rattle.vp_inter.proofs.LongLanes.{by_eight, fore, back}
use Rattle.vp_inter.proofs.six_tap.interleave.Goals as goal

pub returns-clause-even : goal.returns-clause-even
returns-clause-even c =
    let at = fore 8 c.args.even c.args.odd c.fits-even.0 in
    by_eight _ (at 0 (lit< tt)) (at 1 (lit< tt)) (at 2 (lit< tt)) (at 3 (lit< tt)) (at 4 (lit< tt)) (at 5 (lit< tt)) (at 6 (lit< tt)) (at 7 (lit< tt))

pub returns-clause-odd : goal.returns-clause-odd
returns-clause-odd c =
    let at = back c.args.even c.args.odd c.fits-even.0 in
    by_eight _ (at 0) (at 1) (at 2) (at 3) (at 4) (at 5) (at 6) (at 7)
