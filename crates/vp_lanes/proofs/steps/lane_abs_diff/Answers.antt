use Rattle.vp_lanes.proofs.Bytes.{gap_is}
use Rattle.vp_lanes.proofs.steps.lane_abs_diff.Goals as goal

pub returns : goal.returns
returns c j h = gap_is _ _ _ _ _ (c.saturating_difference.ensures j h) (c.saturating_difference-2.ensures j h) (c.lane_max.ensures j h)
