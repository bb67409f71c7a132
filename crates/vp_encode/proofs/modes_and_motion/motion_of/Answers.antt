use Rattle.std.proofs.Common.{◌∙◌, sym}
use Rattle.vp_base.specs.Grid.{all as everywhere}
use Rattle.vp_motion.specs.Map.{intra}
use Rattle.vp_encode.proofs.Candidates.{only_none}
use Rattle.vp_encode.proofs.modes_and_motion.motion_of.Goals as goal

pub loop-row-init : goal.loop-row-init
loop-row-init c =
    only_none c.args.coded.now.macroblocks _ (c.in_ok-motion.ensures ∙ (λ i. everywhere (sym c.requires.columns i) (sym c.requires.rows i) intra))
