use Rattle.std.proofs.Common.{ℕ, sym, ap, ◌∙◌, arith}
use Rattle.vp_search.specs.Search.{cost_in}
use Rattle.vp_search.proofs.SearchLemmas.{cost_here}
use Rattle.vp_search.proofs.search_window.SearchWindow.centre.Goals as goal

pub returns-clause-known : goal.returns-clause-known
returns-clause-known c =
    let w = c.args.self.now in
    let m : ℕ = c.from-middle.result in
    c.sad_up_to.ensures.within.0 (omega (arith, c.sad_up_to.ensures.bound)) ∙ cost_here w m m c.at.result c.at.ensures ∙ ap (cost_in w) (sym c.vector.ensures)

pub returns-clause-bytes : goal.returns-clause-bytes
returns-clause-bytes c = c.sad_up_to.ensures.bytes
