use Rattle.std.proofs.Common.{pos, ◌<◌, ℕ, arith}
use Rattle.vp_lanes.specs.Lane.{lane}
use Rattle.vp_transform.proofs.Narrow.{TurnIsLong, turn_is_long}
use Rattle.vp_transform.proofs.Words.{four}
use Rattle.vp_lanes.proofs.Signed32.{signed_param, signed_splat, stands_pos, signed_add, signed_sub, signed_mul, signed_shr, signed_out}
use Rattle.vp_transform.proofs.lanes.idct_1d.Goals as goal

pub returns : goal.returns
returns c j h =
    let long : (k : ℕ) → k < 4 → TurnIsLong (lane c.args.i0 k) (lane c.args.i1 k) (lane c.args.i2 k) (lane c.args.i3 k) =
    λ k l. turn_is_long (record { size = c.requires.first k l }) (record { size = c.requires.second k l }) (record { size = c.requires.third k l }) (record { size = c.requires.fourth k l }) in
    let i0 = signed_param 4 c.args.i0 _ c.well_formed.0 in
    let i1 = signed_param 4 c.args.i1 _ c.well_formed.1.0 in
    let i2 = signed_param 4 c.args.i2 _ c.well_formed.1.1.0 in
    let i3 = signed_param 4 c.args.i3 _ c.well_formed.1.1.1.0 in
    let sine = signed_splat 4 35468 (pos 35468) (stands_pos 35468 (omega arith)) in
    let cosine = signed_splat 4 20091 (pos 20091) (stands_pos 20091 (omega arith)) in
    let a = signed_add i0 i2 (λ k l. (long k l).a) in
    let b = signed_sub i0 i2 (λ k l. (long k l).b) in
    let e = signed_sub (signed_shr (signed_mul i1 sine (λ k l. (long k l).sine_1)) 16)
    (signed_add i3 (signed_shr (signed_mul i3 cosine (λ k l. (long k l).cosine_3)) 16) (λ k l. (long k l).grown_3)) (λ k l. (long k l).c) in
    let d = signed_add (signed_add i1 (signed_shr (signed_mul i1 cosine (λ k l. (long k l).cosine_1)) 16) (λ k l. (long k l).grown_1))
    (signed_shr (signed_mul i3 sine (λ k l. (long k l).sine_3)) 16) (λ k l. (long k l).d) in
    four (signed_out (signed_add a d (λ k l. (long k l).first)) j h)
    (signed_out (signed_add b e (λ k l. (long k l).second)) j h)
    (signed_out (signed_sub b e (λ k l. (long k l).third)) j h)
    (signed_out (signed_sub a d (λ k l. (long k l).fourth)) j h)
