use Rattle.vp_lanes.proofs.Bytes.{splat_lane, difference_is}
use Rattle.vp_lanes.proofs.steps.difference.Goals as goal

pub returns : goal.returns
returns c j h =
    difference_is _ _ _ _ _ _ _ (splat_lane 128 j h) (c.saturating_difference.ensures j h) (c.saturating_difference-2.ensures j h) (c.saturating_sum.ensures j h) (c.saturating_difference-3.ensures j h)
