use Rattle.vp_search.proofs.searcher.Searcher.search.Goals as goal

pub returns-in-Some-clause-least : goal.returns-in-Some-clause-least
returns-in-Some-clause-least c = rw (← c.self.view_is) (c.in-Some.ensures.least c.self.inside.range)
