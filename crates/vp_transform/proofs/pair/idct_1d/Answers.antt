use Rattle.std.proofs.Common.{◌∙◌, ◌≤◌, ◌<◌, ℕ, ap, sym, subst, unsigned_abs, arith}
use Rattle.vp_lanes.specs.Lane.{lane}
use Rattle.vp_lanes.proofs.Signed.{signed_param, signed_add, signed_sub, signed_out}
use Rattle.vp_transform.specs.Transform.{scaled}
use Rattle.vp_transform.proofs.Eights.{resigned}
use Rattle.vp_transform.proofs.Turning.{TurnIsShort, turn_is_short, lanes_a, lanes_b, lanes_c, lanes_d, even_turned, odd_turned}
use Rattle.vp_transform.proofs.Words.{four}
use Rattle.vp_transform.proofs.pair.idct_1d.Goals as goal

pub sine-requires : goal.sine-requires
sine-requires c j h =
    let s = (lanes_b 8466 c.args.i0 c.args.i1 c.args.i2 c.args.i3 c.requires.even c.requires.odd j h).size in
    subst (λ z. unsigned_abs z ≤ 16383) (sym (signed_out (signed_param 8 c.args.i1 _ c.well_formed.1.0) j h)) (omega (arith, s))

pub sine-requires-2 : goal.sine-requires-2
sine-requires-2 c j h =
    let s = (lanes_d 8466 c.args.i0 c.args.i1 c.args.i2 c.args.i3 c.requires.even c.requires.odd j h).size in
    subst (λ z. unsigned_abs z ≤ 16383) (sym (signed_out (signed_param 8 c.args.i3 _ c.well_formed.1.1.1.0) j h)) (omega (arith, s))

pub returns-clause-even : goal.returns-clause-even
returns-clause-even c =
    let short : (k : ℕ) → k < 8 → TurnIsShort (lane c.args.i0 k) (lane c.args.i1 k) (lane c.args.i2 k) (lane c.args.i3 k) =
    λ k l. turn_is_short (lanes_a 8466 c.args.i0 c.args.i1 c.args.i2 c.args.i3 c.requires.even c.requires.odd k l) (lanes_b 8466 c.args.i0 c.args.i1 c.args.i2 c.args.i3 c.requires.even c.requires.odd k l)
    (lanes_c 8466 c.args.i0 c.args.i1 c.args.i2 c.args.i3 c.requires.even c.requires.odd k l) (lanes_d 8466 c.args.i0 c.args.i1 c.args.i2 c.args.i3 c.requires.even c.requires.odd k l) in
    let i0 = signed_param 8 c.args.i0 _ c.well_formed.0 in
    let i1 = signed_param 8 c.args.i1 _ c.well_formed.1.0 in
    let i2 = signed_param 8 c.args.i2 _ c.well_formed.1.1.0 in
    let i3 = signed_param 8 c.args.i3 _ c.well_formed.1.1.1.0 in
    let sine_1 = resigned {Y = λ k. scaled (lane c.args.i1 k) 35468} (signed_param 8 c.sine.result _ c.sine.type_inv) (λ k l. c.sine.ensures k l ∙ ap (λ z. scaled z 35468) (signed_out i1 k l)) in
    let sine_3 = resigned {Y = λ k. scaled (lane c.args.i3 k) 35468} (signed_param 8 c.sine-2.result _ c.sine-2.type_inv) (λ k l. c.sine-2.ensures k l ∙ ap (λ z. scaled z 35468) (signed_out i3 k l)) in
    let cosine_3 = resigned {Y = λ k. scaled (lane c.args.i3 k) 20091} (signed_param 8 c.cosine.result _ c.cosine.type_inv) (λ k l. c.cosine.ensures k l ∙ ap (λ z. scaled z 20091) (signed_out i3 k l)) in
    let cosine_1 = resigned {Y = λ k. scaled (lane c.args.i1 k) 20091} (signed_param 8 c.cosine-2.result _ c.cosine-2.type_inv) (λ k l. c.cosine-2.ensures k l ∙ ap (λ z. scaled z 20091) (signed_out i1 k l)) in
    let a = signed_add i0 i2 (λ k l. (short k l).a) in
    let b = signed_sub i0 i2 (λ k l. (short k l).b) in
    let e = signed_sub sine_1 (signed_add i3 cosine_3 (λ k l. (short k l).grown_3)) (λ k l. (short k l).c) in
    let d = signed_add (signed_add i1 cosine_1 (λ k l. (short k l).grown_1)) sine_3 (λ k l. (short k l).d) in
    even_turned c.args.i0 c.args.i1 c.args.i2 c.args.i3 _ _ _ _
    (λ j h. four (signed_out (signed_add a d (λ k l. (short k l).first)) j h)
    (signed_out (signed_add b e (λ k l. (short k l).second)) j h)
    (signed_out (signed_sub b e (λ k l. (short k l).third)) j h)
    (signed_out (signed_sub a d (λ k l. (short k l).fourth)) j h))

pub returns-clause-odd : goal.returns-clause-odd
returns-clause-odd c =
    let short : (k : ℕ) → k < 8 → TurnIsShort (lane c.args.i0 k) (lane c.args.i1 k) (lane c.args.i2 k) (lane c.args.i3 k) =
    λ k l. turn_is_short (lanes_a 8466 c.args.i0 c.args.i1 c.args.i2 c.args.i3 c.requires.even c.requires.odd k l) (lanes_b 8466 c.args.i0 c.args.i1 c.args.i2 c.args.i3 c.requires.even c.requires.odd k l)
    (lanes_c 8466 c.args.i0 c.args.i1 c.args.i2 c.args.i3 c.requires.even c.requires.odd k l) (lanes_d 8466 c.args.i0 c.args.i1 c.args.i2 c.args.i3 c.requires.even c.requires.odd k l) in
    let i0 = signed_param 8 c.args.i0 _ c.well_formed.0 in
    let i1 = signed_param 8 c.args.i1 _ c.well_formed.1.0 in
    let i2 = signed_param 8 c.args.i2 _ c.well_formed.1.1.0 in
    let i3 = signed_param 8 c.args.i3 _ c.well_formed.1.1.1.0 in
    let sine_1 = resigned {Y = λ k. scaled (lane c.args.i1 k) 35468} (signed_param 8 c.sine.result _ c.sine.type_inv) (λ k l. c.sine.ensures k l ∙ ap (λ z. scaled z 35468) (signed_out i1 k l)) in
    let sine_3 = resigned {Y = λ k. scaled (lane c.args.i3 k) 35468} (signed_param 8 c.sine-2.result _ c.sine-2.type_inv) (λ k l. c.sine-2.ensures k l ∙ ap (λ z. scaled z 35468) (signed_out i3 k l)) in
    let cosine_3 = resigned {Y = λ k. scaled (lane c.args.i3 k) 20091} (signed_param 8 c.cosine.result _ c.cosine.type_inv) (λ k l. c.cosine.ensures k l ∙ ap (λ z. scaled z 20091) (signed_out i3 k l)) in
    let cosine_1 = resigned {Y = λ k. scaled (lane c.args.i1 k) 20091} (signed_param 8 c.cosine-2.result _ c.cosine-2.type_inv) (λ k l. c.cosine-2.ensures k l ∙ ap (λ z. scaled z 20091) (signed_out i1 k l)) in
    let a = signed_add i0 i2 (λ k l. (short k l).a) in
    let b = signed_sub i0 i2 (λ k l. (short k l).b) in
    let e = signed_sub sine_1 (signed_add i3 cosine_3 (λ k l. (short k l).grown_3)) (λ k l. (short k l).c) in
    let d = signed_add (signed_add i1 cosine_1 (λ k l. (short k l).grown_1)) sine_3 (λ k l. (short k l).d) in
    odd_turned c.args.i0 c.args.i1 c.args.i2 c.args.i3 _ _ _ _
    (λ j h. four (signed_out (signed_add a d (λ k l. (short k l).first)) j h)
    (signed_out (signed_add b e (λ k l. (short k l).second)) j h)
    (signed_out (signed_sub b e (λ k l. (short k l).third)) j h)
    (signed_out (signed_sub a d (λ k l. (short k l).fourth)) j h))
