use Rattle.std.proofs.Common.{◌<◌, ℕ, pos, arith}
use Rattle.vp_lanes.specs.Lane.{lane}
use Rattle.vp_lanes.proofs.Signed32.{signed_param, signed_splat, stands_pos, signed_add, signed_shr}
use Rattle.vp_transform.proofs.Eights.{to_shorts_fit, to_shorts_out}
use Rattle.vp_transform.proofs.Narrow.{long-at_most}
use Rattle.vp_transform.proofs.Shorts.{column_short}
use Rattle.vp_transform.proofs.Sizes.{AtMost, sum-at_most}
use Rattle.vp_transform.proofs.forward_short.column_rounded.Goals as goal

pub overflow_cast-result : goal.overflow_cast-result
overflow_cast-result g =
    let z : (j : ℕ) → j < 4 → AtMost 123526080 (lane g.args.z j) = λ j h. record { size = g.requires j h } in
    let sum = signed_add (signed_param 4 g.args.z _ g.well_formed.0) (signed_splat 4 32768 (pos 32768) (stands_pos 32768 (omega arith)))
    (λ j h. long-at_most (sum-at_most {n = 32768} (z j h) (record { size = omega arith })) (omega arith)) in
    to_shorts_fit (signed_shr sum 16) (λ j h. column_short (z j h))

pub returns : goal.returns
returns g =
    let z : (j : ℕ) → j < 4 → AtMost 123526080 (lane g.args.z j) = λ j h. record { size = g.requires j h } in
    let sum = signed_add (signed_param 4 g.args.z _ g.well_formed.0) (signed_splat 4 32768 (pos 32768) (stands_pos 32768 (omega arith)))
    (λ j h. long-at_most (sum-at_most {n = 32768} (z j h) (record { size = omega arith })) (omega arith)) in
    to_shorts_out (signed_shr sum 16) (λ j h. column_short (z j h))
