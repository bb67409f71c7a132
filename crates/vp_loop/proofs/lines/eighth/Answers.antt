use Rattle.std.proofs.Common.{subst, sym, rules, ◌≡◌, ap, ◌∙◌, arith, ℤ, to_z, of_z, ◌+ℤ◌}
use Rattle.std.proofs.lemmas.Int.{ints}
use Rattle.vp_loop.specs.LineSteps.{clamp8}
use mir.Val.{SFits}
use mir.Syntax.{w32}
use lib.Signed.{shr_z as floor_div}
use Rattle.vp_loop.proofs.Shift.{shift_is}
use Rattle.vp_lanes.proofs.Ranges.{InByte, clamp8_in, eighth_in}
use Rattle.vp_loop.proofs.lines.eighth.Goals as goal

pub returns-clause-value : goal.returns-clause-value
returns-clause-value c =
    let f : SFits w32 c.clamped.result = search rules in
    let e : to_z w32 (of_z w32 (to_z w32 (of_z w32 c.args.x) +ℤ to_z w32 (of_z w32 c.args.by))) ≡ c.args.x +ℤ c.args.by = omega (arith, ints) in
    shift_is c.clamped.result 8 f ∙ ap (λ z. floor_div z 8) (c.clamped.ensures.value ∙ ap clamp8 e)

pub returns-clause-range : goal.returns-clause-range
returns-clause-range c = subst (λ (z : ℤ). InByte z) (sym (returns-clause-value c)) (eighth_in (clamp8 (c.args.x +ℤ c.args.by)) (clamp8_in (c.args.x +ℤ c.args.by)))
