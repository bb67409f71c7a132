use Rattle.std.proofs.Common.{◌∙◌, ◌<◌, ◌≤◌, ℕ, pos, ◌+ℤ◌, ap, sym, subst, unsigned_abs, arith}
use lib.Signed.{shr_z as floor_div}
use Rattle.vp_lanes.specs.Lane.{lane}
use Rattle.vp_lanes.proofs.Signed.{signed_param, signed_splat, stands_pos, signed_add, signed_sub, signed_mul, signed_out}
use Rattle.vp_transform.proofs.Known.{multiple-at_most}
use Rattle.vp_transform.proofs.Shorts.{Sums, lane_sums, short_from, sum_along, difference_along, across_is}
use Rattle.vp_transform.proofs.Sizes.{sum-at_most, difference-at_most, more-at_most}
use Rattle.vp_transform.proofs.Vectors.{passes, within}
use Rattle.vp_transform.proofs.Words.{four}
use Rattle.vp_transform.proofs.forward_short.across.Goals as goal

pub sum_of-requires-clause-c : goal.sum_of-requires-clause-c
sum_of-requires-clause-c g =
    let s : (j : ℕ) → j < 4 → Sums 255 (lane g.args.i0 j) (lane g.args.i1 j) (lane g.args.i2 j) (lane g.args.i3 j) = lane_sums 255 g.args.i0 g.args.i1 g.args.i2 g.args.i3 g.requires in
    let i0 = signed_param 4 g.args.i0 _ g.well_formed.0 in
    let i1 = signed_param 4 g.args.i1 _ g.well_formed.1.0 in
    let i2 = signed_param 4 g.args.i2 _ g.well_formed.1.1.0 in
    let i3 = signed_param 4 g.args.i3 _ g.well_formed.1.1.1.0 in
    let c = signed_mul (signed_splat 4 8 (pos 8) (stands_pos 8 (omega arith))) (signed_sub i1 i2 (λ j h. short_from 510 (s j h).c (omega arith) (omega arith))) (λ j h. short_from 4080 (multiple-at_most 8 (s j h).c) (omega arith) (omega arith)) in
    λ j h. subst (λ z. unsigned_abs z ≤ 16320) (sym (signed_out c j h)) (more-at_most (multiple-at_most 8 (s j h).c) (omega arith)).size

pub sum_of-requires-clause-d : goal.sum_of-requires-clause-d
sum_of-requires-clause-d g =
    let s : (j : ℕ) → j < 4 → Sums 255 (lane g.args.i0 j) (lane g.args.i1 j) (lane g.args.i2 j) (lane g.args.i3 j) = lane_sums 255 g.args.i0 g.args.i1 g.args.i2 g.args.i3 g.requires in
    let i0 = signed_param 4 g.args.i0 _ g.well_formed.0 in
    let i1 = signed_param 4 g.args.i1 _ g.well_formed.1.0 in
    let i2 = signed_param 4 g.args.i2 _ g.well_formed.1.1.0 in
    let i3 = signed_param 4 g.args.i3 _ g.well_formed.1.1.1.0 in
    let d = signed_mul (signed_splat 4 8 (pos 8) (stands_pos 8 (omega arith))) (signed_sub i0 i3 (λ j h. short_from 510 (s j h).d (omega arith) (omega arith))) (λ j h. short_from 4080 (multiple-at_most 8 (s j h).d) (omega arith) (omega arith)) in
    λ j h. subst (λ z. unsigned_abs z ≤ 16320) (sym (signed_out d j h)) (more-at_most (multiple-at_most 8 (s j h).d) (omega arith)).size

pub difference_of-requires-clause-c : goal.difference_of-requires-clause-c
difference_of-requires-clause-c g =
    let s : (j : ℕ) → j < 4 → Sums 255 (lane g.args.i0 j) (lane g.args.i1 j) (lane g.args.i2 j) (lane g.args.i3 j) = lane_sums 255 g.args.i0 g.args.i1 g.args.i2 g.args.i3 g.requires in
    let i0 = signed_param 4 g.args.i0 _ g.well_formed.0 in
    let i1 = signed_param 4 g.args.i1 _ g.well_formed.1.0 in
    let i2 = signed_param 4 g.args.i2 _ g.well_formed.1.1.0 in
    let i3 = signed_param 4 g.args.i3 _ g.well_formed.1.1.1.0 in
    let c = signed_mul (signed_splat 4 8 (pos 8) (stands_pos 8 (omega arith))) (signed_sub i1 i2 (λ j h. short_from 510 (s j h).c (omega arith) (omega arith))) (λ j h. short_from 4080 (multiple-at_most 8 (s j h).c) (omega arith) (omega arith)) in
    λ j h. subst (λ z. unsigned_abs z ≤ 16320) (sym (signed_out c j h)) (more-at_most (multiple-at_most 8 (s j h).c) (omega arith)).size

pub difference_of-requires-clause-d : goal.difference_of-requires-clause-d
difference_of-requires-clause-d g =
    let s : (j : ℕ) → j < 4 → Sums 255 (lane g.args.i0 j) (lane g.args.i1 j) (lane g.args.i2 j) (lane g.args.i3 j) = lane_sums 255 g.args.i0 g.args.i1 g.args.i2 g.args.i3 g.requires in
    let i0 = signed_param 4 g.args.i0 _ g.well_formed.0 in
    let i1 = signed_param 4 g.args.i1 _ g.well_formed.1.0 in
    let i2 = signed_param 4 g.args.i2 _ g.well_formed.1.1.0 in
    let i3 = signed_param 4 g.args.i3 _ g.well_formed.1.1.1.0 in
    let d = signed_mul (signed_splat 4 8 (pos 8) (stands_pos 8 (omega arith))) (signed_sub i0 i3 (λ j h. short_from 510 (s j h).d (omega arith) (omega arith))) (λ j h. short_from 4080 (multiple-at_most 8 (s j h).d) (omega arith) (omega arith)) in
    λ j h. subst (λ z. unsigned_abs z ≤ 16320) (sym (signed_out d j h)) (more-at_most (multiple-at_most 8 (s j h).d) (omega arith)).size

pub row_rounded-requires : goal.row_rounded-requires
row_rounded-requires g = within 123526080 123526080 (passes g.sum_of.result _ g.sum_of.type_inv) (omega arith) g.sum_of.ensures.within

pub row_rounded-requires-2 : goal.row_rounded-requires-2
row_rounded-requires-2 g = within 123526080 123526080 (passes g.difference_of.result _ g.difference_of.type_inv) (omega arith) g.difference_of.ensures.within

pub returns : goal.returns
returns g =
    let s : (j : ℕ) → j < 4 → Sums 255 (lane g.args.i0 j) (lane g.args.i1 j) (lane g.args.i2 j) (lane g.args.i3 j) = lane_sums 255 g.args.i0 g.args.i1 g.args.i2 g.args.i3 g.requires in
    let i0 = signed_param 4 g.args.i0 _ g.well_formed.0 in
    let i1 = signed_param 4 g.args.i1 _ g.well_formed.1.0 in
    let i2 = signed_param 4 g.args.i2 _ g.well_formed.1.1.0 in
    let i3 = signed_param 4 g.args.i3 _ g.well_formed.1.1.1.0 in
    let a = signed_mul (signed_splat 4 8 (pos 8) (stands_pos 8 (omega arith))) (signed_add i0 i3 (λ j h. short_from 510 (s j h).a (omega arith) (omega arith))) (λ j h. short_from 4080 (multiple-at_most 8 (s j h).a) (omega arith) (omega arith)) in
    let b = signed_mul (signed_splat 4 8 (pos 8) (stands_pos 8 (omega arith))) (signed_add i1 i2 (λ j h. short_from 510 (s j h).b (omega arith) (omega arith))) (λ j h. short_from 4080 (multiple-at_most 8 (s j h).b) (omega arith) (omega arith)) in
    let c = signed_mul (signed_splat 4 8 (pos 8) (stands_pos 8 (omega arith))) (signed_sub i1 i2 (λ j h. short_from 510 (s j h).c (omega arith) (omega arith))) (λ j h. short_from 4080 (multiple-at_most 8 (s j h).c) (omega arith) (omega arith)) in
    let d = signed_mul (signed_splat 4 8 (pos 8) (stands_pos 8 (omega arith))) (signed_sub i0 i3 (λ j h. short_from 510 (s j h).d (omega arith) (omega arith))) (λ j h. short_from 4080 (multiple-at_most 8 (s j h).d) (omega arith) (omega arith)) in
    across_is g.args.i0 g.args.i1 g.args.i2 g.args.i3 _ _ _ _
    (λ j h. four (signed_out (signed_add a b (λ j h. short_from 8160 (sum-at_most (multiple-at_most 8 (s j h).a) (multiple-at_most 8 (s j h).b)) (omega arith) (omega arith))) j h)
    (signed_out (signed_param 4 g.row_rounded.result _ g.row_rounded.type_inv) j h ∙ g.row_rounded.ensures j h
    ∙ ap (λ z. floor_div (z +ℤ pos 2048) 4096) ((passes g.sum_of.result _ g.sum_of.type_inv).at j h ∙ g.sum_of.ensures.value j h ∙ sum_along (signed_out c j h) (signed_out d j h)))
    (signed_out (signed_sub a b (λ j h. short_from 8160 (difference-at_most (multiple-at_most 8 (s j h).a) (multiple-at_most 8 (s j h).b)) (omega arith) (omega arith))) j h)
    (signed_out (signed_param 4 g.row_rounded-2.result _ g.row_rounded-2.type_inv) j h ∙ g.row_rounded-2.ensures j h
    ∙ ap (λ z. floor_div (z +ℤ pos 2048) 4096) ((passes g.difference_of.result _ g.difference_of.type_inv).at j h ∙ g.difference_of.ensures.value j h ∙ difference_along (signed_out d j h) (signed_out c j h))))
