use Rattle.std.proofs.Common.{◌∙◌, List, ◌++◌, sym}
use Rattle.vp_motion.specs.declared.vector.Weighted.{Weighted}
use Rattle.vp_motion.specs.Counting.{weighted_vector}
use Rattle.vp_motion.proofs.Counts.{recount, runs-moving, runs-still, still-moving, still-still}
use Rattle.vp_motion.proofs.counting.count.Goals as goal

pub returns-then-is_still-clause-value : goal.returns-then-is_still-clause-value
returns-then-is_still-clause-value c =
    let rest : List Weighted = weighted_vector 2 c.args.left ++ weighted_vector 1 c.args.corner in
    let s = sym c.is_still.ensures ∙ c.if-is_still.true in
    recount _ _ _ _ _ c.left_after_none-then-is_still.ensures.value (rw c.in-Some.is (still-still c.in-Some.vector 2 rest s)) (rw c.in-Some.is (runs-still c.in-Some.vector 2 rest s))

pub returns-else-is_still-clause-value : goal.returns-else-is_still-clause-value
returns-else-is_still-clause-value c =
    let rest : List Weighted = weighted_vector 2 c.args.left ++ weighted_vector 1 c.args.corner in
    let s = sym c.is_still.ensures ∙ c.if-is_still.false in
    recount _ _ _ _ _ c.left_after_one.ensures.value (rw c.in-Some.is (still-moving c.in-Some.vector 2 rest s)) (rw c.in-Some.is (runs-moving c.in-Some.vector 2 rest s))
