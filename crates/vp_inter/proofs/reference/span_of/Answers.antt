use Rattle.std.proofs.Common.{◌≡◌, ◌∙◌, ℕ, ℤ, pos, ◌+◌, ◌-◌, ◌+ℤ◌, ◌-ℤ◌, ap, to_z, of_z, w32}
use Rattle.std.proofs.lemmas.Int.{to_z-of_z}
use Rattle.std.specs.Int.{int_min, int_max}
use lib.IntN.{nat_abs}
use Rattle.vp_inter.specs.Inter.{nearest}
use Rattle.vp_inter.proofs.ReferenceLemmas.{nearest_moved, nearest_near, moved_by, small_natural}
use Rattle.vp_inter.proofs.reference.span_of.Goals as goal

pub returns-clause-indices : goal.returns-clause-indices
returns-clause-indices c j h =
    let size : ℕ = c.args.size in
    let z : ℤ = c.args.at in
    let first : ℕ = c.nearest-start.result in
    let r : ℤ = c.clamp-from.result in
    let from : ℕ = nat_abs (to_z w32 (of_z w32 r)) in
    let moved : to_z w32 (of_z w32 z) ≡ z = to_z-of_z w32 z c.ranges.at in
    let is : first ≡ nearest (size - 15) z = c.nearest-start.ensures.value ∙ ap (nearest (size - 15)) moved in
    let near = nearest_near (size - 15) z first is c.requires.near.0 c.requires.near.1 in
    let far : to_z w32 (of_z w32 (to_z w32 (of_z w32 (to_z w32 (of_z w32 z) -ℤ to_z w32 first)) +ℤ pos 16)) ≡ z -ℤ pos first +ℤ pos 16 =
    moved_by z first c.requires.near.0 c.requires.near.1 near.0 near.1 in
    let is_r : r ≡ int_max (pos 0) (int_min (z -ℤ pos first +ℤ pos 16) (pos 32)) = c.clamp-from.ensures.value ∙ ap (λ (w : ℤ). int_max (pos 0) (int_min w (pos 32))) far in
    let is_from : pos from ≡ int_max (pos 0) (int_min (z -ℤ pos first +ℤ pos 16) (pos 32)) = small_natural r (z -ℤ pos first +ℤ pos 16) is_r ∙ is_r in
    ap (λ (k : ℕ). first + k) (c.indices.ensures j h)
    ∙ nearest_moved size first from j z c.requires.some h is is_from
