use Rattle.std.proofs.Common.{◌<◌, ◌≤◌, ℕ, pos, sym, subst, unsigned_abs, arith}
use Rattle.vp_lanes.specs.Lane.{lane}
use Rattle.vp_lanes.proofs.Signed32.{signed_splat, stands_pos, signed_mul, signed_add, signed_out}
use Rattle.vp_transform.proofs.Eights.{widened16}
use Rattle.vp_transform.proofs.Known.{multiple-at_most}
use Rattle.vp_transform.proofs.Narrow.{long-at_most}
use Rattle.vp_transform.proofs.Shorts.{odd_sum-at_most}
use Rattle.vp_transform.proofs.Sizes.{AtMost}
use Rattle.vp_transform.proofs.forward_short.sum_of.Goals as goal

pub returns : goal.returns
returns g =
    let c : (j : ℕ) → j < 4 → AtMost 16320 (lane g.args.c j) = λ j h. record { size = g.requires.c j h } in
    let d : (j : ℕ) → j < 4 → AtMost 16320 (lane g.args.d j) = λ j h. record { size = g.requires.d j h } in
    let sines = signed_mul (signed_splat 4 2217 (pos 2217) (stands_pos 2217 (omega arith))) (widened16 4 g.args.c _ g.well_formed.0) (λ j h. long-at_most (multiple-at_most 2217 (c j h)) (omega arith)) in
    let cosines = signed_mul (signed_splat 4 5352 (pos 5352) (stands_pos 5352 (omega arith))) (widened16 4 g.args.d _ g.well_formed.1.0) (λ j h. long-at_most (multiple-at_most 5352 (d j h)) (omega arith)) in
    let all = signed_add sines cosines (λ j h. long-at_most (odd_sum-at_most (c j h) (d j h)) (omega arith)) in
    record {
      value = signed_out all;
      within = λ j h. subst (λ z. unsigned_abs z ≤ 123526080) (sym (signed_out all j h)) (odd_sum-at_most (c j h) (d j h)).size;
    }
