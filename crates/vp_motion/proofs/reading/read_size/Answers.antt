use Rattle.vp_bool.specs.Reader as reader
use Rattle.vp_motion.specs.Motion.{component_magnitude}
use Rattle.vp_motion.proofs.LongSizes.{long_size_bits}
use Rattle.vp_motion.proofs.reading.read_size.Goals as goal

pub returns-then-read-clause-value : goal.returns-then-read-clause-value
unfolding component_magnitude reader.bind
returns-then-read-clause-value c =
    rw (← c.read.ensures.value, c.if-read.true, ← c.read.ensures.rest, long_size_bits c.args.probabilities.now c.read.new.self) c.read_long.ensures.value

pub returns-then-read-clause-rest : goal.returns-then-read-clause-rest
unfolding component_magnitude reader.bind
returns-then-read-clause-rest c =
    rw (← c.read.ensures.value, c.if-read.true, ← c.read.ensures.rest, long_size_bits c.args.probabilities.now c.read.new.self) c.read_long.ensures.rest
