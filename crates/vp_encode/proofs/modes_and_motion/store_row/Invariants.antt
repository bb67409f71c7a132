use Rattle.vp_decode.specs.MacroblockMaps.{place}
use Rattle.vp_encode.specs.Written.{IsOnlyMotionBefore}
use Rattle.vp_encode.proofs.modes_and_motion.store_row.Given as goal

abbrev pub invariant-loop-column : goal.invariant-loop-column
invariant-loop-column l = IsOnlyMotionBefore l.coded.macroblocks (place l.row l.column) l.motion
