use Rattle.std.proofs.Common.{◌≡◌, ◌∙◌, ap, List, ℤ, length, rules}
use Rattle.vp_transform.specs.Forward.{fdct}
use Rattle.vp_choose.specs.Levels.{coefficients}
use Rattle.vp_choose.proofs.Listed.{less_listed}
use Rattle.vp_choose.proofs.levels.coefficients.Goals as goal

pub returns-clause-value : goal.returns-clause-value
unfolding coefficients
returns-clause-value c f g fe ge =
    let size : length c.differences.result ≡ 16 = search rules in
    c.fdct_short.ensures.value
    ∙ ap (λ (zs : List ℤ). fdct zs) (less_listed c.args.source.now c.args.prediction.now f g c.differences.result fe ge size c.differences.ensures.value)
