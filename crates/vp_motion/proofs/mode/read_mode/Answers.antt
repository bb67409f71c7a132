use Rattle.std.proofs.Common.{ap, ◌∙◌}
use Rattle.vp_motion.specs.Near.{split_count}
use Rattle.vp_motion.specs.Counting.{weights_of}
use Rattle.vp_motion.proofs.ModeWalkLemmas.{mode_walked}
use Rattle.vp_motion.proofs.mode.read_mode.Goals as goal

pub returns-clause-value : goal.returns-clause-value
returns-clause-value g c = c.any_mode.ensures.value ∙ ap (λ z. z.0) (mode_walked (weights_of (split_count (g.G.MotionGrid.grid c.args.map.now) c.args.place) c.args.found.now) c.args.d.now)

pub returns-clause-rest : goal.returns-clause-rest
returns-clause-rest g c = c.any_mode.ensures.rest ∙ ap (λ z. z.1) (mode_walked (weights_of (split_count (g.G.MotionGrid.grid c.args.map.now) c.args.place) c.args.found.now) c.args.d.now)
