use Rattle.std.proofs.Common.{◌∙◌, map, to_z, of_z, w16}
use Rattle.std.proofs.lemmas.List.{length-map}
use Rattle.vp_lanes.proofs.Signed.{signed_param, signed_out}
use Rattle.vp_transform.proofs.Shorts.{each-within_sixteen}
use Rattle.vp_transform.proofs.forward_short.differences.Goals as goal

pub returns-clause-value : goal.returns-clause-value
returns-clause-value c i h = signed_out (signed_param 16 c.lanes_apart.result _ c.lanes_apart.type_inv) i h ∙ c.lanes_apart.ensures.value i h

pub returns-clause-within : goal.returns-clause-within
returns-clause-within c =
    let all = signed_param 16 c.lanes_apart.result _ c.lanes_apart.type_inv in
    each-within_sixteen 255 c.lanes_apart.result (map (to_z w16) (map (of_z w16) c.lanes_apart.result))
    (length-map (map (of_z w16) c.lanes_apart.result) (to_z w16) ∙ all.long) (signed_out all) c.lanes_apart.ensures.within
