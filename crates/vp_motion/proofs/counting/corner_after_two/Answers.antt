use Rattle.std.proofs.Common.{◌∙◌, List, [], ◌∷◌, ap, refl, sym, arith}
use Rattle.vp_motion.specs.declared.vector.Weighted.{Weighted}
use Rattle.vp_motion.specs.Near.{weight_of, without}
use Rattle.vp_motion.specs.Counting.{onto, runs}
use Rattle.vp_motion.proofs.Counts.{counts-swapped, counts-three, counts-three-grown, onto-other, onto-same, recount, runs-moving, runs-still, still-moving, still-still}
use Rattle.vp_motion.proofs.counting.corner_after_two.Goals as goal

pub returns-in_default-clause-value : goal.returns-in_default-clause-value
unfolding weight_of without runs onto
returns-in_default-clause-value c =
    let a : Weighted = record { vector = c.args.above; weight = 2 } in
    let l : Weighted = record { vector = c.args.left; weight = 2 } in
    recount _ _ _ _ _ c.two.ensures.value (rw c.in_default.is refl) (rw c.in_default.is (onto-other a l [] c.requires))

pub returns-then-is_still-clause-value : goal.returns-then-is_still-clause-value
unfolding weight_of without runs onto
returns-then-is_still-clause-value c =
    let a : Weighted = record { vector = c.args.above; weight = 2 } in
    let l : Weighted = record { vector = c.args.left; weight = 2 } in
    let s = sym c.is_still.ensures ∙ c.if-is_still.true in
    recount _ _ _ _ _ c.two-then-is_still.ensures.value (rw c.in-Some.is (still-still c.in-Some.vector 1 [] s))
    (rw c.in-Some.is (onto-other a l [] c.requires ∙ ap (λ (es : List Weighted). onto a (onto l es)) (runs-still c.in-Some.vector 1 [] s)))

pub returns-then-is_same-clause-value : goal.returns-then-is_same-clause-value
unfolding weight_of without runs onto
returns-then-is_same-clause-value c =
    let a : Weighted = record { vector = c.args.above; weight = 2 } in
    let l : Weighted = record { vector = c.args.left; weight = 2 } in
    let w : Weighted = record { vector = c.in-Some.vector; weight = 1 } in
    let s = sym c.is_still.ensures ∙ c.if-is_still.false in
    let grown : Weighted = record { vector = c.args.left; weight = 3 } in
    recount _ 0 _ (a ∷ (grown ∷ [])) _ (counts-swapped 0 a grown (omega arith)) (rw c.in-Some.is (still-moving c.in-Some.vector 1 [] s))
    (rw c.in-Some.is (onto-other a grown [] c.requires ∙ ap (onto a) (onto-same l w (sym c.is_same.ensures ∙ c.if-is_same.true)) ∙ ap (λ (es : List Weighted). onto a (onto l es)) (runs-moving c.in-Some.vector 1 [] s)))

pub returns-then-is_same-2-clause-value : goal.returns-then-is_same-2-clause-value
unfolding weight_of without runs onto
returns-then-is_same-2-clause-value c =
    let a : Weighted = record { vector = c.args.above; weight = 2 } in
    let l : Weighted = record { vector = c.args.left; weight = 2 } in
    let w : Weighted = record { vector = c.in-Some.vector; weight = 1 } in
    let s = sym c.is_still.ensures ∙ c.if-is_still.false in
    let h = sym c.is_same-else-is_same.ensures ∙ c.if-is_same-2.true in
    recount _ 0 _ (a ∷ (l ∷ (w ∷ []))) _ (counts-three-grown c.args.above c.args.left c.in-Some.vector h) (rw c.in-Some.is (still-moving c.in-Some.vector 1 [] s))
    (rw c.in-Some.is (onto-other a l (w ∷ []) c.requires ∙ ap (onto a) (onto-other l w [] (sym c.is_same.ensures ∙ c.if-is_same.false)) ∙ ap (λ (es : List Weighted). onto a (onto l es)) (runs-moving c.in-Some.vector 1 [] s)))

pub returns-else-is_same-2-clause-value : goal.returns-else-is_same-2-clause-value
unfolding weight_of without runs onto
returns-else-is_same-2-clause-value c =
    let a : Weighted = record { vector = c.args.above; weight = 2 } in
    let l : Weighted = record { vector = c.args.left; weight = 2 } in
    let w : Weighted = record { vector = c.in-Some.vector; weight = 1 } in
    let s = sym c.is_still.ensures ∙ c.if-is_still.false in
    let h = sym c.is_same-else-is_same.ensures ∙ c.if-is_same-2.false in
    recount _ 0 _ (a ∷ (l ∷ (w ∷ []))) _ (counts-three c.args.above c.args.left c.in-Some.vector h) (rw c.in-Some.is (still-moving c.in-Some.vector 1 [] s))
    (rw c.in-Some.is (onto-other a l (w ∷ []) c.requires ∙ ap (onto a) (onto-other l w [] (sym c.is_same.ensures ∙ c.if-is_same.false)) ∙ ap (λ (es : List Weighted). onto a (onto l es)) (runs-moving c.in-Some.vector 1 [] s)))
