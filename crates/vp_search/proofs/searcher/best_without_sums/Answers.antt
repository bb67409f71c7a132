use Rattle.std.proofs.Common.{ℕ, List, subst}
use Rattle.vp_search.specs.Differences.{block16}
use Rattle.vp_search.specs.Chosen.{IsChosen}
use Rattle.vp_search.proofs.SearchLemmas.{best_below}
use Rattle.vp_search.proofs.searcher.best_without_sums.Goals as goal

pub returns-clause-chosen : goal.returns-clause-chosen
returns-clause-chosen g c =
    let best = c.search.result.best in
    subst (λ (b : List ℕ). IsChosen (block16 b) c.args.reference.now c.args.place c.args.range c.args.limit best) c.of-block.ensures
    (best_below _ c.args.reference.now c.args.place best c.cut_window.ensures c.centre.ensures.bytes c.search.ensures)
