use Rattle.std.proofs.Common.{◌≡◌, ◌∙◌, ap, sym, subst, arith, to_z, of_z, w32, ◌+ℤ◌}
use Rattle.std.proofs.lemmas.Int.{ints}
use Rattle.vp_bool.specs.Reader as reader
use Rattle.vp_motion.specs.Vector.{Vector, IsWithin}
use Rattle.vp_motion.specs.Motion.{new_vector, sum_of}
use Rattle.vp_motion.proofs.reading.read_new_vector.Goals as goal

pub returns-clause-value : goal.returns-clause-value
unfolding new_vector reader.bind
returns-clause-value c =
    let u : Vector = record { row = c.best.inside.row; column = c.best.inside.column } in
    let v : Vector = record { row = c.difference.inside.row; column = c.difference.inside.column } in
    let b : IsWithin 65536 u = subst (IsWithin 65536) (sym c.best.view_is) c.requires in
    let d : IsWithin 1023 v = subst (IsWithin 1023) (sym c.difference.view_is) c.read_vector-difference.ensures.short in
    let p : to_z w32 (of_z w32 (to_z w32 (of_z w32 u.row) +ℤ to_z w32 (of_z w32 v.row))) ≡ u.row +ℤ v.row = omega (arith, ints, b, d) in
    let q : to_z w32 (of_z w32 (to_z w32 (of_z w32 u.column) +ℤ to_z w32 (of_z w32 v.column))) ≡ u.column +ℤ v.column = omega (arith, ints, b, d) in
    (λ i. record { row = p i; column = q i }) ∙ (λ i. sum_of (c.best.view_is i) (c.difference.view_is i)) ∙ ap (sum_of c.args.best) c.read_vector-difference.ensures.value

pub invariant_of-result : goal.invariant_of-result
invariant_of-result c =
    let b : IsWithin 65536 (record { row = c.best.inside.row; column = c.best.inside.column }) = subst (IsWithin 65536) (sym c.best.view_is) c.requires in
    let d : IsWithin 1023 (record { row = c.difference.inside.row; column = c.difference.inside.column }) = subst (IsWithin 1023) (sym c.difference.view_is) c.read_vector-difference.ensures.short in
    record { low_row = omega (arith, ints, b, d); high_row = omega (arith, ints, b, d); low_column = omega (arith, ints, b, d); high_column = omega (arith, ints, b, d) }
