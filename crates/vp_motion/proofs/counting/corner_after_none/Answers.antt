use Rattle.std.proofs.Common.{◌∙◌, ℕ, ◌+◌, [], ap, refl, sym, arith}
use Rattle.vp_motion.specs.Near.{weight_of, without}
use Rattle.vp_motion.specs.Counting.{onto, runs}
use Rattle.vp_motion.proofs.Counts.{recount, runs-moving, runs-still, still-moving, still-still}
use Rattle.vp_motion.proofs.counting.corner_after_none.Goals as goal

pub returns-in_default-clause-value : goal.returns-in_default-clause-value
unfolding weight_of without runs onto
returns-in_default-clause-value c = recount _ _ _ _ _ c.none.ensures.value (rw c.in_default.is (omega arith)) (rw c.in_default.is refl)

pub returns-then-is_still-clause-value : goal.returns-then-is_still-clause-value
unfolding weight_of without runs onto
returns-then-is_still-clause-value c =
    let s = sym c.is_still.ensures ∙ c.if-is_still.true in
    recount _ _ _ _ _ c.none-then-is_still.ensures.value (rw c.in-Some.is (ap (λ (k : ℕ). c.args.zeros + k) (still-still c.in-Some.vector 1 [] s))) (rw c.in-Some.is (runs-still c.in-Some.vector 1 [] s))

pub returns-else-is_still-clause-value : goal.returns-else-is_still-clause-value
unfolding weight_of without runs onto
returns-else-is_still-clause-value c =
    let s = sym c.is_still.ensures ∙ c.if-is_still.false in
    recount _ _ _ _ _ c.one.ensures.value (rw c.in-Some.is (omega (arith, still-moving c.in-Some.vector 1 [] s))) (rw c.in-Some.is (runs-moving c.in-Some.vector 1 [] s))
