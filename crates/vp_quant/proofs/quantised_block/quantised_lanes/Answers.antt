use Rattle.std.proofs.Common.{◌∙◌, ◌≤◌, ℤ, pos, sym, ap, subst, arith, unsigned_abs}
use Rattle.vp_lanes.proofs.Signed.{signed_param, signed_splat, signed_out, stands_pos}
use Rattle.vp_quant.specs.Level.{quantised}
use Rattle.vp_quant.proofs.Sixteen.{handed}
use Rattle.vp_quant.proofs.Reciprocals.{none_quantised, level_quantised}
use Rattle.vp_quant.proofs.quantised_block.quantised_lanes.Goals as goal

pub rounded_sizes-sizes-requires : goal.rounded_sizes-sizes-requires
rounded_sizes-sizes-requires c j h =
    subst (λ z. unsigned_abs z ≤ 32767) (sym (handed c.args.v (signed_param 16 c.args.v _ c.well_formed.0) j h)) (c.requires.range j h)

pub returns-then-are_below : goal.returns-then-are_below
returns-then-are_below c j h =
    let passed = handed c.args.v (signed_param 16 c.args.v _ c.well_formed.0) j h in
    signed_out (signed_splat 16 0 (pos 0) (stands_pos 0 (omega arith))) j h
    ∙ none_quantised _ c.args.factor _ (c.rounded_sizes-sizes.ensures j h) (c.are_below.ensures.below c.if-are_below.true j h)
    ∙ ap (λ (z : ℤ). quantised z c.args.factor) passed

pub returns : goal.returns
returns c j h =
    let passed = handed c.args.v (signed_param 16 c.args.v _ c.well_formed.0) j h in
    handed c.with_signs.result (signed_param 16 c.with_signs.result _ c.with_signs.type_inv) j h
    ∙ c.with_signs.ensures j h
    ∙ level_quantised _ c.args.factor _ _ (c.rounded_sizes-sizes.ensures j h) (c.quotients.ensures j h)
    ∙ ap (λ (z : ℤ). quantised z c.args.factor) passed
