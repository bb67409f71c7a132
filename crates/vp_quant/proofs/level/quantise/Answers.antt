use Rattle.std.proofs.Common.{◌<ℤ◌, ◌≤ℤ◌, ◌≤◌, ◌-ℤ◌, ◌*ℤ◌, ◌*◌, pos, unsigned_abs, arith, subst, sym, w64}
use Rattle.std.proofs.lemmas.Int.{ints, to_z-of_z}
use Rattle.vp_quant.proofs.Levels.{quantised-negative, quantised-other, nearest-negative}
use Rattle.vp_quant.proofs.level.quantise.Goals as goal

pub returns-then-coefficient-lt0-clause-value : goal.returns-then-coefficient-lt0-clause-value
returns-then-coefficient-lt0-clause-value c =
    let less : c.args.coefficient <ℤ pos 0 = omega (arith, ints) in
    let size = rw (c.unsigned_abs.ensures.value, c.from.ensures, c.from-2.ensures, to_z-of_z w64 c.args.coefficient c.ranges.coefficient) at c.min-level.ensures in
    quantised-negative c.args.coefficient c.args.factor c.min-level.result less size

pub returns-then-coefficient-lt0-clause-nearest : goal.returns-then-coefficient-lt0-clause-nearest
returns-then-coefficient-lt0-clause-nearest c h =
    let less : c.args.coefficient <ℤ pos 0 = omega (arith, ints) in
    let size = rw (c.unsigned_abs.ensures.value, c.from.ensures, c.from-2.ensures, to_z-of_z w64 c.args.coefficient c.ranges.coefficient) at c.min-level.ensures in
    let e = quantised-negative c.args.coefficient c.args.factor c.min-level.result less size in
    subst (λ v. 2 * unsigned_abs (c.args.coefficient -ℤ v *ℤ pos c.args.factor) ≤ c.args.factor) (sym e)
    (nearest-negative c.args.coefficient c.args.factor c.requires less h)

pub returns-else-coefficient-lt0-clause-value : goal.returns-else-coefficient-lt0-clause-value
returns-else-coefficient-lt0-clause-value c =
    let more : pos 0 ≤ℤ c.args.coefficient = omega (arith, ints) in
    let size = rw (c.unsigned_abs.ensures.value, c.from.ensures, c.from-2.ensures, to_z-of_z w64 c.args.coefficient c.ranges.coefficient) at c.min-level.ensures in
    quantised-other c.args.coefficient c.args.factor c.min-level.result more size
