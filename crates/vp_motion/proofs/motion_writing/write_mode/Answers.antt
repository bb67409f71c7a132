use Rattle.vp_tables.specs.declared.modes.VectorMode.TheVariants as vector_is
use Rattle.vp_motion.specs.Motion.{vector_mode}
use Rattle.vp_motion.proofs.motion_writing.write_mode.Goals as goal

pub returns : goal.returns
unfolding vector_mode
returns c = rw (← c.probabilities_of.ensures) (c.in_ok-write_tree.ensures vector_is.Zero)
