use Rattle.std.proofs.Common.{◌∙◌, ap}
use Rattle.vp_lanes.proofs.Signed.{signed_param, signed_out}
use Rattle.vp_transform.specs.Transform.{scaled}
use Rattle.vp_transform.proofs.pair.cosine.Goals as goal

pub returns : goal.returns
returns c j h =
    signed_out (signed_param 8 c.high.result _ c.high.type_inv) j h ∙ c.high.ensures j h
    ∙ ap (λ z. scaled z 20091) (signed_out (signed_param 8 c.args.z _ c.well_formed.0) j h)
