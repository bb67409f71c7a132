use Rattle.std.proofs.Common.{◌≡◌, ◌∙◌, arith, ap, ◌-ℤ◌, to_z, of_z, w32}
use Rattle.std.proofs.lemmas.Int.{ints}
use Rattle.std.specs.Prelude.{unsigned_abs}
use Rattle.vp_motion.specs.Vector.{Vector}
use Rattle.vp_motion.proofs.Spellings.{told_short}
use Rattle.vp_motion.proofs.motion_writing.is_spelled.Goals as goal

pub returns-then-abs_diff-le1023 : goal.returns-then-abs_diff-le1023
returns-then-abs_diff-le1023 c =
    let v : Vector = record { row = c.vector.inside.row; column = c.vector.inside.column } in
    let u : Vector = record { row = c.best.inside.row; column = c.best.inside.column } in
    let p : to_z w32 (of_z w32 v.row) -ℤ to_z w32 (of_z w32 u.row) ≡ v.row -ℤ u.row = omega (arith, ints) in
    let q : to_z w32 (of_z w32 v.column) -ℤ to_z w32 (of_z w32 u.column) ≡ v.column -ℤ u.column = omega (arith, ints) in
    rw (← c.vector.view_is, ← c.best.view_is)
    (told_short v u _ _ (c.abs_diff.ensures ∙ ap unsigned_abs p) (c.abs_diff-then-abs_diff-le1023.ensures ∙ ap unsigned_abs q) c.if-abs_diff-le1023.true)
