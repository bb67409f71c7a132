use Rattle.std.proofs.Common.{◌≡◌, ◌∙◌, ◌+◌, ◌*◌, ap, arith}
use Rattle.vp_scale.specs.Runs.{block_sum}
use Rattle.vp_scale.proofs.LaneLemmas.{pairs_are, pairs_small}
use Rattle.vp_scale.proofs.plane.PlaneView.sums_of_two.Goals as goal

pub returns-clause-value : goal.returns-clause-value
returns-clause-value c =
    pairs_are 1 c.args.k c.args.self.now c.args.x c.args.y c.column_sums.result c.column_sums-2.result c.pair_sums.result
    (λ j h. c.column_sums.ensures.value j h ∙ (let e : c.args.x + j ≡ c.args.x + 1 * j = omega arith in ap (λ z. block_sum 1 c.args.k c.args.self.now z c.args.y) e))
    (λ j h. c.column_sums-2.ensures.value j h ∙ (let e : c.args.x + 8 + j ≡ c.args.x + 8 + 1 * j = omega arith in ap (λ z. block_sum 1 c.args.k c.args.self.now z c.args.y) e))
    c.pair_sums.ensures.front c.pair_sums.ensures.back

pub returns-clause-bound : goal.returns-clause-bound
returns-clause-bound c j h =
    omega (arith, pairs_small (255 * c.args.k) c.column_sums.result c.column_sums-2.result c.pair_sums.result c.column_sums.ensures.bound c.column_sums-2.ensures.bound c.pair_sums.ensures.front c.pair_sums.ensures.back j h)
