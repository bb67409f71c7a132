use Rattle.std.proofs.Common.{lit<}
use Rattle.vp_inter.proofs.LongLanes.{by_eight, taken}
use Rattle.vp_inter.proofs.six_tap.odd_weights.Goals as goal

pub returns : goal.returns
returns c =
    let at = taken c.args.w _ c.well_formed.0 in
    by_eight _ (at 1 (lit< tt)) (at 3 (lit< tt)) (at 5 (lit< tt)) (at 7 (lit< tt)) (at 9 (lit< tt)) (at 11 (lit< tt)) (at 13 (lit< tt)) (at 15 (lit< tt))
