use Rattle.vp_cache.proofs.NearestLemmas.{nearest_is_usable, none_is_usable, nearest_goes_on, none_starts_at_the_key, others_save_nothing}
use Rattle.vp_cache.proofs.laws.nearest_cursor_goes_on.Goals as goal

pub returns-clause-some : goal.returns-clause-some
returns-clause-some c = nearest_is_usable

pub returns-clause-none : goal.returns-clause-none
returns-clause-none c = none_is_usable

pub returns-clause-costs : goal.returns-clause-costs
returns-clause-costs c = nearest_goes_on

pub returns-clause-key : goal.returns-clause-key
returns-clause-key c = none_starts_at_the_key

pub returns-clause-others : goal.returns-clause-others
returns-clause-others c = others_save_nothing
