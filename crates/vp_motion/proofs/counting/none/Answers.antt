use Rattle.vp_motion.proofs.Counts.{counts-none}
use Rattle.vp_motion.proofs.counting.none.Goals as goal

pub returns-clause-value : goal.returns-clause-value
returns-clause-value c = λ clamp splits. rw (c.nobody.ensures, c.nobody-2.ensures) (counts-none c.args.zeros clamp splits)
