use Rattle.vp_bool.proofs.WritingLemmas.{Writes-then}
use Rattle.vp_motion.specs.Motion.{component_magnitude}
use Rattle.vp_motion.proofs.LongSizes.{long_sizes}
use Rattle.vp_motion.proofs.writing.write_size.Goals as goal

pub returns-in_ok-write_short : goal.returns-in_ok-write_short
unfolding component_magnitude
returns-in_ok-write_short c = Writes-then _ c.in_ok-write.ensures.reads c.in_ok-write_short.ensures

pub returns-in_ok-write_long : goal.returns-in_ok-write_long
unfolding component_magnitude
returns-in_ok-write_long c = Writes-then _ c.in_ok-write-2.ensures.reads (rw (long_sizes c.args.probabilities.now) c.in_ok-write_long.ensures)
