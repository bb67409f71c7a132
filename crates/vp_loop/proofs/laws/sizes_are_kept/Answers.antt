use Rattle.vp_loop.proofs.WindowLemmas.{row_whole}
use Rattle.vp_loop.proofs.laws.sizes_are_kept.Goals as goal

pub returns-clause-whole : goal.returns-clause-whole
returns-clause-whole c = row_whole
