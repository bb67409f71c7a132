use Rattle.std.proofs.Common.{ℕ, ◌<◌, ◌^◌, arith}
use Rattle.vp_lanes.specs.Lane.{lane}
use Rattle.vp_transform.proofs.Mixing.{columns_mixed}
use Rattle.vp_transform.proofs.Narrow.{long-at_most}
use Rattle.vp_transform.proofs.Sizes.{AtMost, sum-at_most, difference-at_most}
use Rattle.vp_transform.proofs.Vectors.{within_first, within_second, within_third, within_fourth}
use Rattle.vp_transform.proofs.Words.{four}
use Rattle.vp_lanes.proofs.Signed32.{signed_param, signed_add, signed_sub, signed_out}
use Rattle.vp_transform.proofs.hadamard_lanes.mix.Goals as goal

pub returns : goal.returns
returns g =
    let a = g.args.i0 in
    let b = g.args.i1 in
    let c = g.args.i2 in
    let d = g.args.i3 in
    let wa : (j : ℕ) → j < 4 → AtMost (2 ^ 28) (lane a j) = λ j h. record { size = within_first (2 ^ 28) a b c d g.requires j h } in
    let wb : (j : ℕ) → j < 4 → AtMost (2 ^ 28) (lane b j) = λ j h. record { size = within_second (2 ^ 28) a b c d g.requires j h } in
    let wc : (j : ℕ) → j < 4 → AtMost (2 ^ 28) (lane c j) = λ j h. record { size = within_third (2 ^ 28) a b c d g.requires j h } in
    let wd : (j : ℕ) → j < 4 → AtMost (2 ^ 28) (lane d j) = λ j h. record { size = within_fourth (2 ^ 28) a b c d g.requires j h } in
    let i0 = signed_param 4 a _ g.well_formed.0 in
    let i1 = signed_param 4 b _ g.well_formed.1.0 in
    let i2 = signed_param 4 c _ g.well_formed.1.1.0 in
    let i3 = signed_param 4 d _ g.well_formed.1.1.1.0 in
    let s = signed_add i0 i3 (λ j h. long-at_most (sum-at_most (wa j h) (wd j h)) (omega arith)) in
    let t = signed_add i1 i2 (λ j h. long-at_most (sum-at_most (wb j h) (wc j h)) (omega arith)) in
    let u = signed_sub i1 i2 (λ j h. long-at_most (difference-at_most (wb j h) (wc j h)) (omega arith)) in
    let v = signed_sub i0 i3 (λ j h. long-at_most (difference-at_most (wa j h) (wd j h)) (omega arith)) in
    columns_mixed a b c d _ _ _ _
    (λ j h.
    four (signed_out (signed_add s t (λ j h. long-at_most (sum-at_most (sum-at_most (wa j h) (wd j h)) (sum-at_most (wb j h) (wc j h))) (omega arith))) j h)
    (signed_out (signed_add u v (λ j h. long-at_most (sum-at_most (difference-at_most (wb j h) (wc j h)) (difference-at_most (wa j h) (wd j h))) (omega arith))) j h)
    (signed_out (signed_sub s t (λ j h. long-at_most (difference-at_most (sum-at_most (wa j h) (wd j h)) (sum-at_most (wb j h) (wc j h))) (omega arith))) j h)
    (signed_out (signed_sub v u (λ j h. long-at_most (difference-at_most (difference-at_most (wa j h) (wd j h)) (difference-at_most (wb j h) (wc j h))) (omega arith))) j h))
