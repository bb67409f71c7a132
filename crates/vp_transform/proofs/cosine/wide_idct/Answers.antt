use Rattle.std.proofs.Common.{ap, ◌∙◌}
use Rattle.vp_transform.specs.Transform.{idct, horizontal}
use Rattle.vp_transform.proofs.cosine.wide_idct.Goals as goal

pub returns : goal.returns
unfolding idct
returns c = c.by_rows.ensures ∙ ap (λ v. horizontal v) c.by_columns.ensures
