use Rattle.std.proofs.Common.{sym, subst}
use Rattle.vp_base.specs.Grid.{Grid}
use Rattle.vp_motion.specs.Vector.{MacroblockMotion}
use Rattle.vp_motion.specs.Map.{AreWithin}
use Rattle.vp_motion.proofs.Sizes.{all-short}
use Rattle.vp_choose.proofs.tests.is_chosen_still.Goals as goal

pub choose-choice-requires-clause-short : goal.choose-choice-requires-clause-short
choose-choice-requires-clause-short c =
    subst (λ (m : Grid MacroblockMotion). AreWithin 511 m) (sym (c.in_ok-vectors.ensures {u = tt})) (all-short 511 _ _)
