use Rattle.std.proofs.Common.{◌≡◌, ◌∙◌, ℕ, ◌+◌, List, ap, sym, arith}
use Rattle.vp_motion.specs.declared.vector.Weighted.{Weighted}
use Rattle.vp_motion.specs.Counting.{still_weight, weighted_vector}
use Rattle.vp_motion.proofs.Counts.{recount, runs-moving, runs-still, still-moving, still-still}
use Rattle.vp_motion.proofs.counting.left_after_none.Goals as goal

pub returns-then-is_still-clause-value : goal.returns-then-is_still-clause-value
returns-then-is_still-clause-value c =
    let rest : List Weighted = weighted_vector 1 c.args.corner in
    let s = sym c.is_still.ensures ∙ c.if-is_still.true in
    let sum : c.args.zeros + 2 + still_weight rest ≡ c.args.zeros + (2 + still_weight rest) = omega arith in
    recount _ _ _ _ _ c.corner_after_none-then-is_still.ensures.value (rw c.in-Some.is (sum ∙ ap (λ (k : ℕ). c.args.zeros + k) (still-still c.in-Some.vector 2 rest s)))
    (rw c.in-Some.is (runs-still c.in-Some.vector 2 rest s))

pub returns-else-is_still-clause-value : goal.returns-else-is_still-clause-value
returns-else-is_still-clause-value c =
    let rest : List Weighted = weighted_vector 1 c.args.corner in
    let s = sym c.is_still.ensures ∙ c.if-is_still.false in
    recount _ _ _ _ _ c.corner_after_one.ensures.value (rw c.in-Some.is (ap (λ (k : ℕ). c.args.zeros + k) (still-moving c.in-Some.vector 2 rest s)))
    (rw c.in-Some.is (runs-moving c.in-Some.vector 2 rest s))
