use Rattle.std.proofs.Common.{◌≡◌, ◌∙◌, pos, ◌*◌, ◌*ℤ◌, to_z, of_z, w32, ap₂, subst, arith}
use Rattle.std.proofs.lemmas.Int.{ints}
use Rattle.vp_inter.specs.declared.vector.PlaneVector.{PlaneVector}
use Rattle.vp_inter.specs.Vectors.{luma_vector}
use Rattle.vp_inter.specs.Filtered.{AreFiltered}
use Rattle.vp_search.proofs.refinement.filter_column.Goals as goal

pub returns : goal.returns
returns c =
    let row : to_z w32 (of_z w32 (pos 4 *ℤ to_z w32 (of_z w32 c.args.target.above))) ≡ pos 4 *ℤ c.args.target.above = omega (arith, ints) in
    let column : to_z w32 (of_z w32 c.args.column) ≡ c.args.column = omega (arith, ints) in
    subst (λ (v : PlaneVector). AreFiltered c.args.target.reference.now (16 * c.args.target.place.column) (16 * c.args.target.place.row) v c.filter.new.self)
    (c.luma_vector-first.ensures ∙ ap₂ luma_vector row column) c.filter.ensures
