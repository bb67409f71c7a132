use Rattle.std.proofs.Common.{rules, ◌∙◌}
use Rattle.vp_transform.specs.Forward.{row_pass}
use Rattle.vp_transform.proofs.Along.{FourFit, rows_read, rows_along}
use Rattle.vp_transform.proofs.reference.rows.Goals as goal

pub returns : goal.returns
unfolding row_pass
returns c =
    let i : FourFit c.row-a.result = λ k l. search rules in
    let j : FourFit c.row-b.result = λ k l. search rules in
    let m : FourFit c.row-c.result = λ k l. search rules in
    let n : FourFit c.row-d.result = λ k l. search rules in
    rows_read _ _ _ _ i j m n ∙ rows_along c.row-a.ensures c.row-b.ensures c.row-c.ensures c.row-d.ensures
