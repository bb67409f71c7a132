use Rattle.std.proofs.Common.{◌∙◌, ◌<◌, ◌≤◌, ℕ, pos, ◌+ℤ◌, ap, sym, subst, unsigned_abs, arith}
use lib.Signed.{shr_z as floor_div}
use Rattle.vp_lanes.specs.Lane.{lane}
use Rattle.vp_lanes.proofs.Signed.{signed_param, signed_splat, stands_pos, signed_add, signed_sub, signed_shr, signed_out}
use Rattle.vp_transform.proofs.Shorts.{Sums, lane_sums, short_from, sum_along, difference_along, down_is}
use Rattle.vp_transform.proofs.Sizes.{AtMost, sum-at_most, difference-at_most, more-at_most}
use Rattle.vp_transform.proofs.Vectors.{passes, within}
use Rattle.vp_transform.proofs.Words.{four}
use Rattle.vp_transform.proofs.forward_short.down.Goals as goal

pub sum_of-requires-clause-c : goal.sum_of-requires-clause-c
sum_of-requires-clause-c g =
    let s : (j : ℕ) → j < 4 → Sums 8160 (lane g.args.i0 j) (lane g.args.i1 j) (lane g.args.i2 j) (lane g.args.i3 j) = lane_sums 8160 g.args.i0 g.args.i1 g.args.i2 g.args.i3 g.requires in
    let i0 = signed_param 4 g.args.i0 _ g.well_formed.0 in
    let i1 = signed_param 4 g.args.i1 _ g.well_formed.1.0 in
    let i2 = signed_param 4 g.args.i2 _ g.well_formed.1.1.0 in
    let i3 = signed_param 4 g.args.i3 _ g.well_formed.1.1.1.0 in
    let c = signed_sub i1 i2 (λ j h. short_from 16320 (s j h).c (omega arith) (omega arith)) in
    λ j h. subst (λ z. unsigned_abs z ≤ 16320) (sym (signed_out c j h)) (more-at_most ((s j h).c) (omega arith)).size

pub sum_of-requires-clause-d : goal.sum_of-requires-clause-d
sum_of-requires-clause-d g =
    let s : (j : ℕ) → j < 4 → Sums 8160 (lane g.args.i0 j) (lane g.args.i1 j) (lane g.args.i2 j) (lane g.args.i3 j) = lane_sums 8160 g.args.i0 g.args.i1 g.args.i2 g.args.i3 g.requires in
    let i0 = signed_param 4 g.args.i0 _ g.well_formed.0 in
    let i1 = signed_param 4 g.args.i1 _ g.well_formed.1.0 in
    let i2 = signed_param 4 g.args.i2 _ g.well_formed.1.1.0 in
    let i3 = signed_param 4 g.args.i3 _ g.well_formed.1.1.1.0 in
    let d = signed_sub i0 i3 (λ j h. short_from 16320 (s j h).d (omega arith) (omega arith)) in
    λ j h. subst (λ z. unsigned_abs z ≤ 16320) (sym (signed_out d j h)) (more-at_most ((s j h).d) (omega arith)).size

pub difference_of-requires-clause-c : goal.difference_of-requires-clause-c
difference_of-requires-clause-c g =
    let s : (j : ℕ) → j < 4 → Sums 8160 (lane g.args.i0 j) (lane g.args.i1 j) (lane g.args.i2 j) (lane g.args.i3 j) = lane_sums 8160 g.args.i0 g.args.i1 g.args.i2 g.args.i3 g.requires in
    let i0 = signed_param 4 g.args.i0 _ g.well_formed.0 in
    let i1 = signed_param 4 g.args.i1 _ g.well_formed.1.0 in
    let i2 = signed_param 4 g.args.i2 _ g.well_formed.1.1.0 in
    let i3 = signed_param 4 g.args.i3 _ g.well_formed.1.1.1.0 in
    let c = signed_sub i1 i2 (λ j h. short_from 16320 (s j h).c (omega arith) (omega arith)) in
    λ j h. subst (λ z. unsigned_abs z ≤ 16320) (sym (signed_out c j h)) (more-at_most ((s j h).c) (omega arith)).size

pub difference_of-requires-clause-d : goal.difference_of-requires-clause-d
difference_of-requires-clause-d g =
    let s : (j : ℕ) → j < 4 → Sums 8160 (lane g.args.i0 j) (lane g.args.i1 j) (lane g.args.i2 j) (lane g.args.i3 j) = lane_sums 8160 g.args.i0 g.args.i1 g.args.i2 g.args.i3 g.requires in
    let i0 = signed_param 4 g.args.i0 _ g.well_formed.0 in
    let i1 = signed_param 4 g.args.i1 _ g.well_formed.1.0 in
    let i2 = signed_param 4 g.args.i2 _ g.well_formed.1.1.0 in
    let i3 = signed_param 4 g.args.i3 _ g.well_formed.1.1.1.0 in
    let d = signed_sub i0 i3 (λ j h. short_from 16320 (s j h).d (omega arith) (omega arith)) in
    λ j h. subst (λ z. unsigned_abs z ≤ 16320) (sym (signed_out d j h)) (more-at_most ((s j h).d) (omega arith)).size

pub column_rounded-requires : goal.column_rounded-requires
column_rounded-requires g = within 123526080 123526080 (passes g.sum_of.result _ g.sum_of.type_inv) (omega arith) g.sum_of.ensures.within

pub column_rounded-requires-2 : goal.column_rounded-requires-2
column_rounded-requires-2 g = within 123526080 123526080 (passes g.difference_of.result _ g.difference_of.type_inv) (omega arith) g.difference_of.ensures.within

pub returns : goal.returns
returns g =
    let s : (j : ℕ) → j < 4 → Sums 8160 (lane g.args.i0 j) (lane g.args.i1 j) (lane g.args.i2 j) (lane g.args.i3 j) = lane_sums 8160 g.args.i0 g.args.i1 g.args.i2 g.args.i3 g.requires in
    let i0 = signed_param 4 g.args.i0 _ g.well_formed.0 in
    let i1 = signed_param 4 g.args.i1 _ g.well_formed.1.0 in
    let i2 = signed_param 4 g.args.i2 _ g.well_formed.1.1.0 in
    let i3 = signed_param 4 g.args.i3 _ g.well_formed.1.1.1.0 in
    let a = signed_add i0 i3 (λ j h. short_from 16320 (s j h).a (omega arith) (omega arith)) in
    let b = signed_add i1 i2 (λ j h. short_from 16320 (s j h).b (omega arith) (omega arith)) in
    let c = signed_sub i1 i2 (λ j h. short_from 16320 (s j h).c (omega arith) (omega arith)) in
    let d = signed_sub i0 i3 (λ j h. short_from 16320 (s j h).d (omega arith) (omega arith)) in
    let seven = signed_splat 4 7 (pos 7) (stands_pos 7 (omega arith)) in
    let few : AtMost 7 (pos 7) = record { size = omega arith } in
    down_is g.args.i0 g.args.i1 g.args.i2 g.args.i3 _ _ _ _
    (λ j h. four (signed_out (signed_shr (signed_add (signed_add a b (λ j h. short_from 32640 (sum-at_most (s j h).a (s j h).b) (omega arith) (omega arith))) seven (λ j h. short_from 32647 (sum-at_most (sum-at_most (s j h).a (s j h).b) few) (omega arith) (omega arith))) 4) j h)
    (signed_out (signed_param 4 g.column_rounded.result _ g.column_rounded.type_inv) j h ∙ g.column_rounded.ensures j h
    ∙ ap (λ z. floor_div (z +ℤ pos 32768) 65536) ((passes g.sum_of.result _ g.sum_of.type_inv).at j h ∙ g.sum_of.ensures.value j h ∙ sum_along (signed_out c j h) (signed_out d j h)))
    (signed_out (signed_shr (signed_add (signed_sub a b (λ j h. short_from 32640 (difference-at_most (s j h).a (s j h).b) (omega arith) (omega arith))) seven (λ j h. short_from 32647 (sum-at_most (difference-at_most (s j h).a (s j h).b) few) (omega arith) (omega arith))) 4) j h)
    (signed_out (signed_param 4 g.column_rounded-2.result _ g.column_rounded-2.type_inv) j h ∙ g.column_rounded-2.ensures j h
    ∙ ap (λ z. floor_div (z +ℤ pos 32768) 65536) ((passes g.difference_of.result _ g.difference_of.type_inv).at j h ∙ g.difference_of.ensures.value j h ∙ difference_along (signed_out d j h) (signed_out c j h))))
