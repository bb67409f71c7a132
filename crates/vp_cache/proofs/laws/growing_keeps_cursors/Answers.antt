use Rattle.vp_cache.proofs.GrowthLemmas.{cursors_grow, one_cursors_grow}
use Rattle.vp_cache.proofs.laws.growing_keeps_cursors.Goals as goal

pub returns-clause-one : goal.returns-clause-one
returns-clause-one c = cursors_grow

pub returns-clause-all : goal.returns-clause-all
returns-clause-all c = one_cursors_grow
