use Rattle.vp_lanes.proofs.Bytes.{byte_lane, pull_is}
use Rattle.vp_lanes.proofs.steps.filter_value.Goals as goal

pub returns : goal.returns
returns c j h =
    pull_is _ _ _ _ _ _ _ _ _ _ _ (byte_lane _ c.fits-w j h) (c.saturating_difference-up.ensures j h) (c.saturating_difference-down.ensures j h)
    (c.saturating_sum.ensures j h) (c.saturating_sum-2.ensures j h) (c.saturating_sum-raised.ensures j h) (c.saturating_difference.ensures j h) (c.saturating_difference-2.ensures j h) (c.saturating_difference-3.ensures j h)
