use Rattle.std.proofs.Common.{arith}
use Rattle.vp_loop.proofs.TransposeLemmas.{below_eight, high}
use Rattle.vp_loop.proofs.transpose.concat_halves.Goals as goal

pub returns-clause-second : goal.returns-clause-second
returns-clause-second c =
    let a = c.args.first in
    let b = c.args.second in
    let long = c.fits-first.0 in
    below_eight _ (high 8 a b 0 8 long (omega arith)) (high 8 a b 1 9 long (omega arith)) (high 8 a b 2 10 long (omega arith)) (high 8 a b 3 11 long (omega arith))
    (high 8 a b 4 12 long (omega arith)) (high 8 a b 5 13 long (omega arith)) (high 8 a b 6 14 long (omega arith)) (high 8 a b 7 15 long (omega arith))
