use Rattle.std.proofs.Common.{rules, lit<, ◌∙◌}
use Rattle.vp_transform.specs.Transform.{vertical}
use Rattle.vp_transform.proofs.Along.{FourFit, columns_read, columns_along}
use Rattle.vp_transform.proofs.cosine.by_columns.Goals as goal

pub column-b-requires-clause-fits : goal.column-b-requires-clause-fits
column-b-requires-clause-fits c = c.requires.column 1 (lit< tt)

pub column-c-requires-clause-fits : goal.column-c-requires-clause-fits
column-c-requires-clause-fits c = c.requires.column 2 (lit< tt)

pub column-d-requires-clause-fits : goal.column-d-requires-clause-fits
column-d-requires-clause-fits c = c.requires.column 3 (lit< tt)

pub returns : goal.returns
unfolding vertical
returns c =
    let i : FourFit c.column-a.result = λ k l. search rules in
    let j : FourFit c.column-b.result = λ k l. search rules in
    let m : FourFit c.column-c.result = λ k l. search rules in
    let n : FourFit c.column-d.result = λ k l. search rules in
    columns_read _ _ _ _ i j m n ∙ columns_along c.column-a.ensures c.column-b.ensures c.column-c.ensures c.column-d.ensures
