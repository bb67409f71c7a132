use Rattle.std.proofs.Common.{get_or, ◌∙◌}
use Rattle.std.specs.Int.{abs_diff}
use Rattle.vp_search.proofs.SumLemmas.{sum_below-rows}
use Rattle.vp_search.proofs.difference.sad4.Goals as goal

pub returns-clause-value : goal.returns-clause-value
returns-clause-value c =
    c.differences16.ensures.value ∙ sum_below-rows 4 4 (λ j. abs_diff (get_or c.args.a.now j 0) (get_or c.args.b.now j 0))
