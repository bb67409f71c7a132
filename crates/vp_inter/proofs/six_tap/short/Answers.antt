use Rattle.std.proofs.Common.{pos, negsuc, arith}
use Rattle.vp_lanes.specs.Lane.{lane}
use Rattle.vp_lanes.proofs.Signed32.{signed_param, stands_pos, stands_of}
use Rattle.vp_inter.proofs.LongLanes.{held_lanes, held_fits, to_shorts_fit, to_shorts_out}
use Rattle.vp_inter.proofs.six_tap.short.Goals as goal

pub overflow_cast-result : goal.overflow_cast-result
overflow_cast-result c =
    to_shorts_fit (held_lanes (signed_param 8 c.args.sum _ c.well_formed.0) 4294934528 32767 (negsuc 32767) (pos 32767) (stands_of (negsuc 32767) (record { sfits = omega arith })) (stands_pos 32767 (omega arith)))
    (λ i k. held_fits (lane c.args.sum i))

pub returns : goal.returns
returns c =
    to_shorts_out (held_lanes (signed_param 8 c.args.sum _ c.well_formed.0) 4294934528 32767 (negsuc 32767) (pos 32767) (stands_of (negsuc 32767) (record { sfits = omega arith })) (stands_pos 32767 (omega arith)))
    (λ i k. held_fits (lane c.args.sum i))
