use Rattle.vp_motion.specs.Motion.{motion_at}
use Rattle.vp_motion.proofs.motion_writing.write_motion.Goals as goal

pub returns : goal.returns
unfolding motion_at
returns c = rw (← c.near-candidates.ensures) (c.in_ok-write_by.ensures c.args.map.now c.args.place)
