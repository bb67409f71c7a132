use Rattle.std.proofs.Common.{◌∙◌, arith, rules}
use Rattle.vp_search.proofs.SearchLemmas.{first_rows_below, one_more, cost_here}
use Rattle.vp_search.proofs.search_window.SearchWindow.next_within_limit.Goals as goal

pub loop-column-preserved-then-first-limit : goal.loop-column-preserved-then-first-limit
loop-column-preserved-then-first-limit g c =
    let w = c.args.self.now in let i = c.args.row in let j = c.loop-column.column in
    let low = first_rows_below w i j in
    one_more w c.args.limit i c.args.from j c.loop-column.invariant (omega arith)

pub loop-column-preserved : goal.loop-column-preserved
loop-column-preserved g c =
    let w = c.args.self.now in let i = c.args.row in let j = c.loop-column.column in
    let over = c.in_default.ensures.over (search rules) in
    let cost = cost_here w i j c.at-at.result c.at-at.ensures in
    one_more w c.args.limit i c.args.from j c.loop-column.invariant (omega arith)

pub returns-in-Some-clause-cost : goal.returns-in-Some-clause-cost
returns-in-Some-clause-cost g c =
    c.in-Some.ensures.value ∙ cost_here c.args.self.now c.args.row c.loop-column.column c.at-at.result c.at-at.ensures
