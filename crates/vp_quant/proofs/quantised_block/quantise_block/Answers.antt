use Rattle.std.proofs.Common.{length, ◌≡◌, ◌∙◌, ℕ, ◌<◌, ◌≤◌, ℤ, pos, w16, to_z, of_z, map, get_or, sym, ap, subst, arith, unsigned_abs}
use Rattle.std.proofs.lemmas.List.{length-map}
use Rattle.vp_lanes.specs.Lane.{lane}
use Rattle.vp_lanes.proofs.Signed.{signed_param}
use Rattle.vp_quant.specs.Level.{quantised}
use Rattle.vp_quant.proofs.Sixteen.{handed}
use Rattle.vp_quant.proofs.Reciprocals.{ordered_within, read_short, read_wide, levels_are, levels-within}
use Rattle.vp_quant.proofs.quantised_block.quantise_block.Goals as goal

pub quantised_lanes-requires-clause-range : goal.quantised_lanes-requires-clause-range
quantised_lanes-requires-clause-range c j h =
    subst (λ z. unsigned_abs z ≤ 32767) (sym (handed c.without_dc.result (signed_param 16 c.without_dc.result _ c.without_dc.type_inv) j h))
    (ordered_within c.without_dc.result c.args.coefficients.now c.without_dc.ensures.first c.without_dc.ensures.others c.requires.range j h)

long : (c : goal.After-quantise) → length (map (to_z w16) (map (of_z w16) c.quantised_lanes.result)) ≡ 16
long c = length-map (map (of_z w16) c.quantised_lanes.result) (to_z w16) ∙ (signed_param 16 c.quantised_lanes.result _ c.quantised_lanes.type_inv).long

lanes_at : (c : goal.After-quantise) (j : ℕ) → j < 16 → lane (map (to_z w16) (map (of_z w16) c.quantised_lanes.result)) j ≡ quantised (lane c.without_dc.result j) c.args.ac
lanes_at c j h =
    handed c.quantised_lanes.result (signed_param 16 c.quantised_lanes.result _ c.quantised_lanes.type_inv) j h
    ∙ c.quantised_lanes.ensures j h
    ∙ ap (λ (z : ℤ). quantised z c.args.ac) (handed c.without_dc.result (signed_param 16 c.without_dc.result _ c.without_dc.type_inv) j h)

first_read : (c : goal.After-quantise) → to_z w16 (of_z w16 c.quantise.result) ≡ c.quantise.result
first_read c = let w = c.quantise.ensures.within in read_short c.quantise.result (omega arith)

pub returns-clause-value : goal.returns-clause-value
returns-clause-value c =
    levels_are (map (to_z w16) (map (of_z w16) c.quantised_lanes.result)) c.without_dc.result c.args.coefficients.now (to_z w16 (of_z w16 c.quantise.result)) c.args.dc c.args.ac
    (long c) (lanes_at c)
    (first_read c ∙ c.quantise.ensures.value
    ∙ ap (λ (z : ℤ). quantised z c.args.dc) (read_wide c.from.result (get_or c.args.coefficients.now 0 (pos 0)) c.from.ensures (c.requires.range 0)))
    c.without_dc.ensures.others

pub returns-clause-within : goal.returns-clause-within
returns-clause-within c =
    levels-within (map (to_z w16) (map (of_z w16) c.quantised_lanes.result)) c.without_dc.result c.args.coefficients.now (to_z w16 (of_z w16 c.quantise.result)) c.args.dc c.args.ac
    (long c) (lanes_at c)
    (subst (λ (z : ℤ). unsigned_abs z ≤ 2047) (sym (first_read c)) c.quantise.ensures.within)
