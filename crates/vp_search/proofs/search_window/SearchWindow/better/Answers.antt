use Rattle.std.proofs.Common.{◌∙◌, arith}
use Rattle.vp_search.proofs.SearchLemmas.{one_skipped, first_skipped, cost_here}
use Rattle.vp_search.proofs.search_window.SearchWindow.better.Goals as goal

pub returns-then-first-best : goal.returns-then-first-best
returns-then-first-best g c = first_skipped c.args.self.now c.args.spot.row c.args.spot.column c.args.best (omega (arith, c.requires.first))

pub returns-in-None : goal.returns-in-None
returns-in-None g c =
    let w = c.args.self.now in let i = c.args.spot.row in let j = c.args.spot.column in
    let e = cost_here w i j c.at-at.result c.at-at.ensures in
    one_skipped w i j c.args.best (omega arith)

pub better_by_cost-requires-clause-cost : goal.better_by_cost-requires-clause-cost
better_by_cost-requires-clause-cost g c =
    c.in-Some.ensures.value ∙ cost_here c.args.self.now c.args.spot.row c.args.spot.column c.at-at.result c.at-at.ensures
