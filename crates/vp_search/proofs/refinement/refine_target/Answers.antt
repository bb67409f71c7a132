use Rattle.std.proofs.Common.{◌≡◌, ℤ, pos, negsuc, ◌-ℤ◌, List, ℕ, to_z, of_z, w32, sym, subst, inl, inr, arith}
use Rattle.std.proofs.lemmas.Int.{ints}
use Rattle.vp_base.specs.declared.place.Place.{Place}
use Rattle.vp_base.specs.Raster.{Raster}
use Rattle.vp_search.specs.Differences.{block16}
use Rattle.vp_search.specs.Blocks.{quarter_cost}
use Rattle.vp_search.specs.Columns.{IsColumn}
use Rattle.vp_search.proofs.refinement.refine_target.Goals as goal

-- the column of a number that is the same
moved : (p : Raster) (place : Place) (whole a b : ℤ) (rows : List ℕ) → IsColumn p place whole a rows → a ≡ b → IsColumn p place whole b rows
moved p place whole a b rows are e = subst (λ (z : ℤ). IsColumn p place whole z rows) e are

pub best_of-halfway-requires-clause-row : goal.best_of-halfway-requires-clause-row
best_of-halfway-requires-clause-row c =
    omega (arith, ints)

pub best_of-requires-clause-row : goal.best_of-requires-clause-row
best_of-requires-clause-row c =
    omega (arith, ints)

pub costs_around-halves-requires-clause-left : goal.costs_around-halves-requires-clause-left
costs_around-halves-requires-clause-left c =
    moved c.args.target.reference.now c.args.target.place c.args.target.above _ _ _ c.filter_column.ensures (omega (arith, ints))

pub costs_around-halves-requires-clause-own : goal.costs_around-halves-requires-clause-own
costs_around-halves-requires-clause-own c =
    moved c.args.target.reference.now c.args.target.place c.args.target.above _ _ _ c.filter_column-2.ensures (omega (arith, ints))

pub costs_around-halves-requires-clause-right : goal.costs_around-halves-requires-clause-right
costs_around-halves-requires-clause-right c =
    moved c.args.target.reference.now c.args.target.place c.args.target.above _ _ _ c.filter_column-3.ensures (omega (arith, ints))

pub costs_around-quarters-requires-clause-cost : goal.costs_around-quarters-requires-clause-cost
costs_around-quarters-requires-clause-cost c =
    (c.best_of-halfway.ensures.best (quarter_cost (block16 c.args.target.block.now) c.args.target.reference.now c.args.target.place) c.requires.cost c.costs_around-halves.ensures).1

pub costs_around-quarters-requires-clause-left : goal.costs_around-quarters-requires-clause-left
costs_around-quarters-requires-clause-left c =
    moved c.args.target.reference.now c.args.target.place c.args.target.above _ _ _ c.filter_column-4.ensures (omega (arith, ints))

pub costs_around-quarters-requires-clause-own : goal.costs_around-quarters-requires-clause-own
costs_around-quarters-requires-clause-own c =
    let p : Raster = c.args.target.reference.now in
    let place : Place = c.args.target.place in
    let whole : ℤ = c.args.target.above in
    let column : ℤ = c.args.middle.vector.column in
    let found : ℤ = c.best_of-halfway.result.vector.column in
    let rows : List ℕ = c.column_beside-nearest.result.now in
    let read : (a : ℤ) (xs : List ℕ) → rows ≡ xs → IsColumn p place whole a xs → a ≡ found → IsColumn p place whole found rows =
    λ a xs e are same. moved p place whole a found rows (subst (λ (ys : List ℕ). IsColumn p place whole a ys) (sym e) are) same in
    let gap : ℤ = to_z w32 (of_z w32 (to_z w32 (of_z w32 found) -ℤ to_z w32 (of_z w32 column))) in
    elim c.best_of-halfway.ensures.column [
      | inl e ↦ read _ _ (c.column_beside-nearest.ensures.left (let b : gap ≡ negsuc 1 = omega (arith, ints, e) in b)) c.filter_column.ensures (omega (arith, ints, e))
      | inr others ↦ elim others [
        | inl e ↦ read _ _ (c.column_beside-nearest.ensures.own (let b : gap ≡ pos 0 = omega (arith, ints, e) in b)) c.filter_column-2.ensures (omega (arith, ints, e))
        | inr e ↦ read _ _ (c.column_beside-nearest.ensures.right (let b : gap ≡ pos 2 = omega (arith, ints, e) in b)) c.filter_column-3.ensures (omega (arith, ints, e))
      ]
    ]

pub costs_around-quarters-requires-clause-right : goal.costs_around-quarters-requires-clause-right
costs_around-quarters-requires-clause-right c =
    moved c.args.target.reference.now c.args.target.place c.args.target.above _ _ _ c.filter_column-5.ensures (omega (arith, ints))

pub returns-clause-cost : goal.returns-clause-cost
returns-clause-cost c =
    let cost = quarter_cost (block16 c.args.target.block.now) c.args.target.reference.now c.args.target.place in
    let best = c.best_of-halfway.ensures.best cost c.requires.cost c.costs_around-halves.ensures in
    (c.best_of.ensures.best cost best.1 c.costs_around-quarters.ensures).1

pub returns-clause-refined : goal.returns-clause-refined
returns-clause-refined c =
    let cost = quarter_cost (block16 c.args.target.block.now) c.args.target.reference.now c.args.target.place in
    let best = c.best_of-halfway.ensures.best cost c.requires.cost c.costs_around-halves.ensures in
    record { halfway = c.best_of-halfway.result.vector; first = best.0; second = (c.best_of.ensures.best cost best.1 c.costs_around-quarters.ensures).0 }

pub returns-clause-column : goal.returns-clause-column
returns-clause-column c =
    omega (arith, ints)
