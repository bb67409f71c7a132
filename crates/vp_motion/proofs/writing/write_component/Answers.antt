use Rattle.std.proofs.Common.{◌≡◌, ◌∙◌, false, ap, sym, w32, ℤ, pos, negsuc}
use Rattle.std.specs.Prelude.{◌==◌, unsigned_abs}
use Rattle.std.proofs.lemmas.Bool.{ne_eqb}
use Rattle.std.proofs.lemmas.Int.{to_z-of_z}
use Rattle.vp_bool.proofs.WritingLemmas.{Writes-then, Continues-none, Continues-given}
use Rattle.vp_head.proofs.Signs.{with_sign}
use Rattle.vp_motion.specs.Motion.{component}
use Rattle.vp_motion.proofs.writing.write_component.Goals as goal

of_no_size : (z : ℤ) → unsigned_abs z ≡ 0 → pos 0 ≡ z
of_no_size (pos n) h = ap pos (sym h)
of_no_size (negsuc n) h = absurd cc

pub returns-in_ok-write : goal.returns-in_ok-write
unfolding component
returns-in_ok-write c =
    let n = c.unsigned_abs-magnitude.result in
    let same = to_z-of_z w32 c.args.value c.ranges.value in
    let some : (n == 0) ≡ false = ne_eqb n 0 c.if-has_sign.true in
    Writes-then _ c.in_ok-write_size.ensures
    (rw some (Writes-then _ c.in_ok-write.ensures.reads (Continues-given (rw (c.unsigned_abs-magnitude.ensures.value, same) (with_sign c.args.value)) _)))

pub returns-else-has_sign : goal.returns-else-has_sign
unfolding component
returns-else-has_sign c =
    let none = c.if-has_sign.false in
    let same = to_z-of_z w32 c.args.value c.ranges.value in
    let e : unsigned_abs c.args.value ≡ 0 = ap unsigned_abs (sym same) ∙ sym c.unsigned_abs-magnitude.ensures.value ∙ none in
    Writes-then _ c.in_ok-write_size.ensures (rw none (Writes-then _ (Continues-none _ _) (Continues-given (of_no_size c.args.value e) _)))
