use Rattle.std.proofs.Common.{◌≡◌, ◌∙◌, ◌+◌, ◌-◌, ◌*◌, take, drop, sum, ap, refl}
use Rattle.std.proofs.lemmas.List.{take_all}
use Rattle.vp_scale.proofs.RunLemmas.{sum-run_from}
use Rattle.vp_scale.proofs.plane.run_sum.Goals as goal

pub returns-clause-value : goal.returns-clause-value
returns-clause-value c =
    let part = take (c.min-end.result - c.args.x) (drop c.args.x c.args.row.now) in
    let total : c.loop-pixel.total ≡ sum part = c.loop-pixel.invariant.value ∙ ap sum (take_all c.loop-pixel.pixel-index part c.loop-pixel-test.false) in
    (λ i. total i + (c.args.x + c.args.k - c.min-end.result) * c.from.ensures i)
    ∙ sum-run_from c.args.k c.args.x c.min-end.result c.args.row.now part c.requires.inside c.min-end.ensures refl
