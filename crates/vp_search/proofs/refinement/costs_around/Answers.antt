use Rattle.std.proofs.Common.{◌≡◌, ℕ, ℤ, pos, ◌+◌, ◌-◌, ◌+ℤ◌, ◌-ℤ◌, ◌*ℤ◌, to_z, of_z, w32, refl, arith}
use Rattle.std.specs.Prelude.{unsigned_abs}
use Rattle.std.proofs.lemmas.Int.{ints}
use Rattle.vp_base.specs.declared.place.Place.{Place}
use Rattle.vp_base.specs.Raster.{Raster}
use Rattle.vp_search.specs.declared.vector.QuarterVector.{QuarterVector}
use Rattle.vp_search.specs.Differences.{block16}
use Rattle.vp_search.specs.Blocks.{quarter_cost}
use Rattle.vp_search.proofs.RefinedLemmas.{below_nine}
use Rattle.vp_search.proofs.ColumnLemmas.{within_moved}
use Rattle.vp_search.proofs.refinement.costs_around.Goals as goal

pub costs_above_and_below-requires-clause-halves : goal.costs_above_and_below-requires-clause-halves
costs_above_and_below-requires-clause-halves c half = let row = c.requires.halves half in omega (arith, ints)

pub costs_above_and_below-requires-2-clause-halves : goal.costs_above_and_below-requires-2-clause-halves
costs_above_and_below-requires-2-clause-halves c half = let row = c.requires.halves half in omega (arith, ints)

pub costs_above_and_below-requires-3-clause-halves : goal.costs_above_and_below-requires-3-clause-halves
costs_above_and_below-requires-3-clause-halves c half = let row = c.requires.halves half in omega (arith, ints)

pub returns : goal.returns
returns c =
    let p : Raster = c.args.target.reference.now in
    let place : Place = c.args.target.place in
    let whole : ℤ = c.args.target.above in
    let row : ℤ = c.args.centre.vector.row in
    let d : ℕ = c.args.distance in
    let cost : QuarterVector → ℕ = quarter_cost (block16 c.args.target.block.now) p place in
    let down : ℕ = unsigned_abs (to_z w32 (of_z w32 (to_z w32 (of_z w32 row) -ℤ to_z w32 (of_z w32 (pos 4 *ℤ to_z w32 (of_z w32 whole)))))) in
    let same : pos 4 *ℤ whole +ℤ pos down ≡ row = omega (arith, ints) in
    let above : pos 4 *ℤ whole +ℤ pos (down - d) ≡ row -ℤ pos d = omega (arith, ints, same) in
    let below : pos 4 *ℤ whole +ℤ pos (down + d) ≡ row +ℤ pos d = omega (arith, ints, same) in
    below_nine _
    (λ h. c.requires.cost, λ h. absurd (omega arith))
    (within_moved cost _ _ _ _ _ _ _ refl above refl (c.costs_above_and_below.ensures.above p place whole _ c.requires.left))
    (within_moved cost _ _ _ _ _ _ _ refl above refl (c.costs_above_and_below-2.ensures.above p place whole _ c.requires.own))
    (within_moved cost _ _ _ _ _ _ _ refl above refl (c.costs_above_and_below-3.ensures.above p place whole _ c.requires.right))
    (within_moved cost _ _ _ _ _ _ _ refl same refl (c.cost_of_row.ensures p place whole _ c.requires.left))
    (within_moved cost _ _ _ _ _ _ _ refl same refl (c.cost_of_row-2.ensures p place whole _ c.requires.right))
    (within_moved cost _ _ _ _ _ _ _ refl below refl (c.costs_above_and_below.ensures.below p place whole _ c.requires.left))
    (within_moved cost _ _ _ _ _ _ _ refl below refl (c.costs_above_and_below-2.ensures.below p place whole _ c.requires.own))
    (within_moved cost _ _ _ _ _ _ _ refl below refl (c.costs_above_and_below-3.ensures.below p place whole _ c.requires.right))
