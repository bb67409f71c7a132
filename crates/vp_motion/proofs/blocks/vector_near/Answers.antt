use Rattle.std.proofs.Common.{◌∙◌}
use Rattle.vp_motion.proofs.BlockLemmas.{block_there}
use Rattle.vp_motion.proofs.blocks.vector_near.Goals as goal

pub returns-in-There : goal.returns-in-There
returns-in-There g c = rw c.in-There.is (c.vector.ensures ∙ block_there _ c.args.found.now _ _)
