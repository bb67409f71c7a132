use Rattle.std.proofs.Common.{◌≡◌, ◌∙◌, ◌+◌, List, ap, sym, arith}
use Rattle.vp_motion.specs.declared.vector.Weighted.{Weighted}
use Rattle.vp_motion.specs.Counting.{still_weight, moving, onto, runs, weighted_vector}
use Rattle.vp_motion.proofs.Counts.{onto-both, recount, runs-moving, runs-still, still-moving, still-still}
use Rattle.vp_motion.proofs.counting.left_after_one.Goals as goal

pub returns-then-is_still-clause-value : goal.returns-then-is_still-clause-value
returns-then-is_still-clause-value c =
    let a : Weighted = record { vector = c.args.above; weight = 2 } in
    let rest : List Weighted = weighted_vector 1 c.args.corner in
    let s = sym c.is_still.ensures ∙ c.if-is_still.true in
    recount _ _ _ _ _ c.corner_after_one-then-is_still.ensures.value (rw c.in-Some.is (still-still c.in-Some.vector 2 rest s)) (rw c.in-Some.is (ap (onto a) (runs-still c.in-Some.vector 2 rest s)))

pub returns-then-is_same-clause-value : goal.returns-then-is_same-clause-value
returns-then-is_same-clause-value c =
    let a : Weighted = record { vector = c.args.above; weight = 2 } in
    let rest : List Weighted = weighted_vector 1 c.args.corner in
    let s = sym c.is_still.ensures ∙ c.if-is_still.false in
    let l : Weighted = record { vector = c.in-Some.vector; weight = 2 } in
    let none : 0 + still_weight rest ≡ still_weight rest = omega arith in
    recount _ _ _ _ _ c.corner_after_one-then-is_same.ensures.value (rw c.in-Some.is (none ∙ still-moving c.in-Some.vector 2 rest s))
    (rw c.in-Some.is (onto-both a l (runs (moving rest)) (sym c.is_same.ensures ∙ c.if-is_same.true) ∙ ap (onto a) (runs-moving c.in-Some.vector 2 rest s)))

pub returns-else-is_same-clause-value : goal.returns-else-is_same-clause-value
returns-else-is_same-clause-value c =
    let a : Weighted = record { vector = c.args.above; weight = 2 } in
    let rest : List Weighted = weighted_vector 1 c.args.corner in
    let s = sym c.is_still.ensures ∙ c.if-is_still.false in
    recount _ _ _ _ _ c.corner_after_two.ensures.value (rw c.in-Some.is (still-moving c.in-Some.vector 2 rest s)) (rw c.in-Some.is (ap (onto a) (runs-moving c.in-Some.vector 2 rest s)))
