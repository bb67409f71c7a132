use Rattle.std.proofs.Common.{◌≡◌, ◌∙◌, sym, subst, arith, to_z, of_z, w32}
use Rattle.std.proofs.lemmas.Int.{ints}
use Rattle.vp_bool.proofs.WritingLemmas.{Writes-then, Continues-given}
use Rattle.vp_motion.specs.Vector.{Vector, IsWithin}
use Rattle.vp_motion.specs.Motion.{vector}
use Rattle.vp_motion.proofs.writing.write_vector.Goals as goal

-- a vector as the code has it
coded : Vector → Vector
coded v = record { row = to_z w32 (of_z w32 v.row); column = to_z w32 (of_z w32 v.column) }

coded_is : (v : Vector) → IsWithin 1023 v → coded v ≡ v
unfolding coded
coded_is v d =
    let p : (coded v).row ≡ v.row = omega (arith, ints, d) in
    let q : (coded v).column ≡ v.column = omega (arith, ints, d) in
    λ i. record { row = p i; column = q i }

pub returns : goal.returns
unfolding vector coded
returns c =
    let v : Vector = record { row = c.difference.inside.row; column = c.difference.inside.column } in
    let d : IsWithin 1023 v = subst (IsWithin 1023) (sym c.difference.view_is) c.requires in
    Writes-then _ c.in_ok-write_component.ensures (Writes-then _ c.in_ok-write_component-2.ensures (Continues-given (coded_is v d ∙ c.difference.view_is) _))
