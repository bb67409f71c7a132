use Rattle.std.proofs.Common.{◌∙◌, ◌<◌, ◌++◌, w16, to_z, of_z, map, get_or, replicate, sym, ap, subst}
use Rattle.std.proofs.lemmas.List.{get_or_append_left}
use Rattle.vp_lanes.specs.Lane.{lane}
use Rattle.vp_quant.proofs.Reciprocals.{signed_list, ordered_at}
use Rattle.vp_quant.proofs.quantised_block.without_dc.Goals as goal

pub returns-clause-others : goal.returns-clause-others
returns-clause-others c =
    let x = signed_list c.args.coefficients.now c.told-coefficients c.requires in
    let bits = map (of_z w16) c.args.coefficients.now in
    ordered_at (λ k. to_z w16 (get_or (bits ++ replicate 16 0) k 0)) (lane c.args.coefficients.now)
    (λ k h. ap (to_z w16) (get_or_append_left bits (replicate 16 0) 0 k (subst (λ n. k < n) (sym x.long) h)) ∙ (x.at k h).is)
