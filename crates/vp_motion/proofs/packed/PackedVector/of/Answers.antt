use Rattle.std.proofs.Common.{◌≡◌, ◌∙◌, ◌+◌, ◌*◌, sym, subst, arith}
use Rattle.vp_motion.specs.Vector.{Vector, IsSmall}
use Rattle.vp_motion.specs.Packed.{unpacked}
use Rattle.vp_motion.proofs.PackedLemmas.{unpacked-is}
use Rattle.vp_motion.proofs.packed.PackedVector.of.Goals as goal

pub invariant_of-result : goal.invariant_of-result
invariant_of-result c =
    let v : Vector = record { row = c.vector.inside.row; column = c.vector.inside.column } in
    let same : unpacked (c.from-row.result + c.from-column.result * 4294967296) ≡ v =
    unpacked-is v _ _ c.vector.invariant (c.from-row.ensures ∙ c.cast_unsigned.ensures) (c.from-column.ensures ∙ c.cast_unsigned-2.ensures) in
    (omega arith, subst IsSmall (sym same) c.vector.invariant)

pub returns : goal.returns
returns c = unpacked-is (record { row = c.vector.inside.row; column = c.vector.inside.column }) _ _ c.vector.invariant
    (c.from-row.ensures ∙ c.cast_unsigned.ensures) (c.from-column.ensures ∙ c.cast_unsigned-2.ensures) ∙ c.vector.view_is
