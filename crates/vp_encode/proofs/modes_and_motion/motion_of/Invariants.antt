use Rattle.vp_decode.specs.MacroblockMaps.{place}
use Rattle.vp_encode.specs.Written.{IsOnlyMotionBefore}
use Rattle.vp_encode.proofs.modes_and_motion.motion_of.Given as goal

abbrev pub invariant-loop-row : goal.invariant-loop-row
invariant-loop-row l = IsOnlyMotionBefore l.coded.macroblocks (place l.row 0) l.motion
