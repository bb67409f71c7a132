use Rattle.std.proofs.Common.{rules, lit<, ◌∙◌}
use Rattle.vp_transform.specs.Transform.{horizontal}
use Rattle.vp_transform.proofs.Along.{FourFit, rows_read, rows_along}
use Rattle.vp_transform.proofs.cosine.by_rows.Goals as goal

pub row-a-requires-clause-fits : goal.row-a-requires-clause-fits
row-a-requires-clause-fits c = c.requires.row 0 (lit< tt)

pub row-b-requires-clause-fits : goal.row-b-requires-clause-fits
row-b-requires-clause-fits c = c.requires.row 1 (lit< tt)

pub row-c-requires-clause-fits : goal.row-c-requires-clause-fits
row-c-requires-clause-fits c = c.requires.row 2 (lit< tt)

pub row-d-requires-clause-fits : goal.row-d-requires-clause-fits
row-d-requires-clause-fits c = c.requires.row 3 (lit< tt)

pub returns : goal.returns
unfolding horizontal
returns c =
    let i : FourFit c.row-a.result = λ k l. search rules in
    let j : FourFit c.row-b.result = λ k l. search rules in
    let m : FourFit c.row-c.result = λ k l. search rules in
    let n : FourFit c.row-d.result = λ k l. search rules in
    rows_read _ _ _ _ i j m n ∙ rows_along c.row-a.ensures c.row-b.ensures c.row-c.ensures c.row-d.ensures
