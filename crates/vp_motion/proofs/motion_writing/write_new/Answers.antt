use Rattle.std.proofs.Common.{◌≡◌, ◌∙◌, ap, sym, subst, arith, to_z, of_z, w32, ◌-ℤ◌}
use Rattle.std.proofs.lemmas.Int.{ints}
use Rattle.vp_bool.proofs.WritingLemmas.{Writes-then, Continues-given}
use Rattle.vp_motion.specs.Vector.{Vector, IsWithin}
use Rattle.vp_motion.specs.Motion.{new_vector, sum_of}
use Rattle.vp_motion.specs.Spelled.{difference_of}
use Rattle.vp_motion.proofs.Spellings.{sum_of-difference}
use Rattle.vp_motion.proofs.motion_writing.write_new.Goals as goal

-- the difference as the code has it
coded : Vector → Vector → Vector
coded v u = record {
  row = to_z w32 (of_z w32 (to_z w32 (of_z w32 v.row) -ℤ to_z w32 (of_z w32 u.row)));
  column = to_z w32 (of_z w32 (to_z w32 (of_z w32 v.column) -ℤ to_z w32 (of_z w32 u.column)));
}

coded_is : (v u : Vector) → IsWithin 66559 v → IsWithin 65536 u → coded v u ≡ difference_of v u
unfolding coded
coded_is v u a b =
    let p : (coded v u).row ≡ v.row -ℤ u.row = omega (arith, ints, a, b) in
    let q : (coded v u).column ≡ v.column -ℤ u.column = omega (arith, ints, a, b) in
    λ i. record { row = p i; column = q i }

pub invariant_of-difference : goal.invariant_of-difference
unfolding coded
invariant_of-difference c =
    let v : Vector = record { row = c.vector.inside.row; column = c.vector.inside.column } in
    let u : Vector = record { row = c.best.inside.row; column = c.best.inside.column } in
    let b : IsWithin 65536 u = subst (IsWithin 65536) (sym c.best.view_is) c.requires.best in
    let n : IsWithin 1023 (difference_of v u) = rw (← c.vector.view_is, ← c.best.view_is) at c.requires.near in
    let d : IsWithin 1023 (coded v u) = subst (IsWithin 1023) (sym (coded_is v u c.vector.invariant b)) n in
    record { low_row = omega (arith, ints, d); high_row = omega (arith, ints, d); low_column = omega (arith, ints, d); high_column = omega (arith, ints, d) }

pub write_vector-requires : goal.write_vector-requires
unfolding coded
write_vector-requires c =
    let v : Vector = record { row = c.vector.inside.row; column = c.vector.inside.column } in
    let u : Vector = record { row = c.best.inside.row; column = c.best.inside.column } in
    let b : IsWithin 65536 u = subst (IsWithin 65536) (sym c.best.view_is) c.requires.best in
    let n : IsWithin 1023 (difference_of v u) = rw (← c.vector.view_is, ← c.best.view_is) at c.requires.near in
    subst (IsWithin 1023) (sym (coded_is v u c.vector.invariant b)) n

pub returns : goal.returns
unfolding new_vector coded
returns c =
    let v : Vector = record { row = c.vector.inside.row; column = c.vector.inside.column } in
    let u : Vector = record { row = c.best.inside.row; column = c.best.inside.column } in
    let b : IsWithin 65536 u = subst (IsWithin 65536) (sym c.best.view_is) c.requires.best in
    let e : sum_of u (coded v u) ≡ v = ap (sum_of u) (coded_is v u c.vector.invariant b) ∙ sum_of-difference v u in
    rw (← c.vector.view_is, ← c.best.view_is) (Writes-then _ c.in_ok-write_vector.ensures (Continues-given e _))
