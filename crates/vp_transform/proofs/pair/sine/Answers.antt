use Rattle.std.proofs.Common.{◌∙◌, ap, arith}
use Rattle.std.proofs.lemmas.Int.{ints}
use Rattle.vp_lanes.proofs.Signed.{signed_param, signed_add, signed_out}
use Rattle.vp_lanes.specs.Lane.{lane}
use Rattle.vp_transform.specs.Transform.{scaled}
use Rattle.vp_transform.proofs.Turning.{twice_half}
use Rattle.vp_transform.proofs.pair.sine.Goals as goal

pub returns : goal.returns
returns c j h =
    let z = signed_param 8 c.args.z _ c.well_formed.0 in
    let sum = signed_add z z (λ i k. let r = c.requires i k in (omega (arith, ints), omega (arith, ints))) in
    signed_out (signed_param 8 c.high.result _ c.high.type_inv) j h ∙ c.high.ensures j h
    ∙ ap (λ z. scaled z 17734) (signed_out sum j h)
    ∙ twice_half (lane c.args.z j)
