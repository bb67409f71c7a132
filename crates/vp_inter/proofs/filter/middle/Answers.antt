use Rattle.std.proofs.Common.{◌∙◌, ℤ, pos, ◌-ℤ◌, ap, get_or, rules, w16}
use Rattle.std.proofs.lemmas.Int.{to_z-of_z}
use mir.Val.{SFits}
use Rattle.vp_lanes.proofs.Signed.{signed_param, signed_out}
use Rattle.vp_inter.proofs.NarrowLemmas.{pair_same}
use Rattle.vp_inter.proofs.filter.middle.Goals as goal

pub returns : goal.returns
returns g c j h =
    let f2 : SFits w16 (get_or c.args.weights.now 2 (pos 0)) = search rules in
    let f3 : SFits w16 (get_or c.args.weights.now 3 (pos 0)) = search rules in
    signed_out (signed_param g.row.N c.middle_pair_sum.result _ c.middle_pair_sum.type_inv) j h
    ∙ c.middle_pair_sum.ensures j h
    ∙ ap (λ (z : ℤ). z -ℤ pos 16320) (pair_same _ _ _ _ _ _ _ _ (c.load.ensures j h) (c.load-2.ensures j h) (to_z-of_z w16 _ f2) (to_z-of_z w16 _ f3))
