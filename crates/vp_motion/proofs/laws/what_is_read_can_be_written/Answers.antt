use Rattle.vp_motion.proofs.Sizes.{vector-small, motion-spelled}
use Rattle.vp_motion.proofs.laws.what_is_read_can_be_written.Goals as goal

pub returns : goal.returns
returns c = record { vectors = vector-small; motions = motion-spelled }
