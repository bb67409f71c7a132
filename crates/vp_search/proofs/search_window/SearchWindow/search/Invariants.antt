use Rattle.vp_search.specs.Search.{IsFound}
use Rattle.vp_search.proofs.SearchLemmas.{AreSeen}
use Rattle.vp_search.proofs.search_window.SearchWindow.search.Given as goal

abbrev pub invariant-loop-d : goal.invariant-loop-d
invariant-loop-d l = record {
  found : IsFound l.self l.progress.best;
  seen : AreSeen l.self l.d l.progress.best;
}
