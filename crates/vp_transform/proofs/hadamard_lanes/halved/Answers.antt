use Rattle.std.proofs.Common.{◌^◌, ℕ, ◌<◌, pos, arith}
use Rattle.vp_lanes.specs.Lane.{lane}
use Rattle.vp_transform.proofs.Halving.{rows_halved}
use Rattle.vp_transform.proofs.Narrow.{long-at_most}
use Rattle.vp_transform.proofs.Sizes.{AtMost, sum-at_most}
use Rattle.vp_transform.proofs.Vectors.{within_first, within_second, within_third, within_fourth}
use Rattle.vp_lanes.proofs.Signed32.{signed_param, signed_splat, stands_pos, signed_add, signed_shr, signed_out}
use Rattle.vp_transform.proofs.hadamard_lanes.halved.Goals as goal

pub returns : goal.returns
returns g =
    let a = g.args.a in
    let b = g.args.b in
    let c = g.args.c in
    let d = g.args.d in
    let one = signed_splat 4 1 (pos 1) (stands_pos 1 (omega arith)) in
    let more : AtMost 1 (pos 1) = record { size = omega arith } in
    let wa : (j : ℕ) → j < 4 → AtMost (2 ^ 30) (lane a j) = λ j h. record { size = within_first (2 ^ 30) a b c d g.requires j h } in
    let wb : (j : ℕ) → j < 4 → AtMost (2 ^ 30) (lane b j) = λ j h. record { size = within_second (2 ^ 30) a b c d g.requires j h } in
    let wc : (j : ℕ) → j < 4 → AtMost (2 ^ 30) (lane c j) = λ j h. record { size = within_third (2 ^ 30) a b c d g.requires j h } in
    let wd : (j : ℕ) → j < 4 → AtMost (2 ^ 30) (lane d j) = λ j h. record { size = within_fourth (2 ^ 30) a b c d g.requires j h } in
    let i0 = signed_param 4 a _ g.well_formed.0 in
    let i1 = signed_param 4 b _ g.well_formed.1.0 in
    let i2 = signed_param 4 c _ g.well_formed.1.1.0 in
    let i3 = signed_param 4 d _ g.well_formed.1.1.1.0 in
    rows_halved a b c d _ _ _ _
    (λ j h. signed_out (signed_shr (signed_add i0 one (λ j h. long-at_most (sum-at_most (wa j h) more) (omega arith))) 1) j h)
    (λ j h. signed_out (signed_shr (signed_add i1 one (λ j h. long-at_most (sum-at_most (wb j h) more) (omega arith))) 1) j h)
    (λ j h. signed_out (signed_shr (signed_add i2 one (λ j h. long-at_most (sum-at_most (wc j h) more) (omega arith))) 1) j h)
    (λ j h. signed_out (signed_shr (signed_add i3 one (λ j h. long-at_most (sum-at_most (wd j h) more) (omega arith))) 1) j h)
