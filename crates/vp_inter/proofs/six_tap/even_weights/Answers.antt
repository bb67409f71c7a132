use Rattle.std.proofs.Common.{lit<}
use Rattle.vp_inter.proofs.LongLanes.{by_eight, taken}
use Rattle.vp_inter.proofs.six_tap.even_weights.Goals as goal

pub returns : goal.returns
returns c =
    let at = taken c.args.w _ c.well_formed.0 in
    by_eight _ (at 0 (lit< tt)) (at 2 (lit< tt)) (at 4 (lit< tt)) (at 6 (lit< tt)) (at 8 (lit< tt)) (at 10 (lit< tt)) (at 12 (lit< tt)) (at 14 (lit< tt))
