use Rattle.vp_lanes.proofs.Bytes.{byte_lane, splat_lane, lowered_is}
use Rattle.vp_lanes.proofs.steps.lowered.Goals as goal

pub returns-clause-value : goal.returns-clause-value
returns-clause-value c j h =
    lowered_is _ _ c.args.bias _ _ _ _ _ (byte_lane _ c.fits-x j h) (splat_lane c.args.bias j h) (c.saturating_difference.ensures j h) (c.saturating_difference-2.ensures j h) (c.saturating_sum.ensures j h) (c.saturating_difference-3.ensures j h)

pub returns-clause-bytes : goal.returns-clause-bytes
returns-clause-bytes c j h = byte_lane _ c.fits-x j h
