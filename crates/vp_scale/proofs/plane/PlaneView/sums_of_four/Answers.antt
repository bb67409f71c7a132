use Rattle.std.proofs.Common.{◌*◌, arith}
use Rattle.vp_scale.proofs.LaneLemmas.{pairs_are, pairs_small}
use Rattle.vp_scale.proofs.plane.PlaneView.sums_of_four.Goals as goal

pub returns-clause-value : goal.returns-clause-value
returns-clause-value c =
    pairs_are 2 c.args.k c.args.self.now c.args.x c.args.y c.sums_of_two.result c.sums_of_two-2.result c.pair_sums.result
    c.sums_of_two.ensures.value
    c.sums_of_two-2.ensures.value
    c.pair_sums.ensures.front c.pair_sums.ensures.back

pub returns-clause-bound : goal.returns-clause-bound
returns-clause-bound c j h =
    omega (arith, pairs_small (510 * c.args.k) c.sums_of_two.result c.sums_of_two-2.result c.pair_sums.result c.sums_of_two.ensures.bound c.sums_of_two-2.ensures.bound c.pair_sums.ensures.front c.pair_sums.ensures.back j h)
