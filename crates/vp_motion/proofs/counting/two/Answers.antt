use Rattle.vp_motion.proofs.Counts.{counts-two}
use Rattle.vp_motion.proofs.counting.two.Goals as goal

pub returns-clause-value : goal.returns-clause-value
returns-clause-value c = counts-two c.args.zeros c.args.first c.args.second c.requires.second
