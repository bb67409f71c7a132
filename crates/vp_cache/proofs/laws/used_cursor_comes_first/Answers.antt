use Rattle.vp_cache.proofs.NearestLemmas.{used_is_first, used_is_moved, new_one_comes, cursors_hold_answers}
use Rattle.vp_cache.proofs.laws.used_cursor_comes_first.Goals as goal

pub returns-clause-first : goal.returns-clause-first
returns-clause-first c = used_is_first

pub returns-clause-moved : goal.returns-clause-moved
returns-clause-moved c = used_is_moved

pub returns-clause-new : goal.returns-clause-new
returns-clause-new c = new_one_comes

pub returns-clause-answers : goal.returns-clause-answers
returns-clause-answers c = cursors_hold_answers
