use Rattle.vp_inter.proofs.LongLanes.{by_eight, back}
use Rattle.vp_inter.proofs.six_tap.joined_halves.Goals as goal

pub returns-clause-back : goal.returns-clause-back
returns-clause-back c =
    let at = back c.args.front c.args.back c.fits-front.0 in
    by_eight _ (at 0) (at 1) (at 2) (at 3) (at 4) (at 5) (at 6) (at 7)
