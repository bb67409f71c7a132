use Rattle.vp_motion.proofs.Counts.{counts-one}
use Rattle.vp_motion.proofs.counting.one.Goals as goal

pub returns-clause-value : goal.returns-clause-value
returns-clause-value c = λ clamp splits. rw c.nobody.ensures (counts-one c.args.zeros c.args.first clamp splits)
