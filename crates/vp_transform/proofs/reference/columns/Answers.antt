use Rattle.std.proofs.Common.{rules, ◌∙◌}
use Rattle.vp_transform.specs.Forward.{column_pass}
use Rattle.vp_transform.proofs.Along.{FourFit, columns_read, columns_along}
use Rattle.vp_transform.proofs.reference.columns.Goals as goal

pub returns : goal.returns
unfolding column_pass
returns c =
    let i : FourFit c.column-a.result = λ k l. search rules in
    let j : FourFit c.column-b.result = λ k l. search rules in
    let m : FourFit c.column-c.result = λ k l. search rules in
    let n : FourFit c.column-d.result = λ k l. search rules in
    columns_read _ _ _ _ i j m n ∙ columns_along c.column-a.ensures c.column-b.ensures c.column-c.ensures c.column-d.ensures
