use Rattle.std.proofs.Common.{◌≡◌, pos, ◌*◌, ◌*ℤ◌, to_z, of_z, w32, ap, ap₂, ◌∙◌, refl, arith}
use Rattle.std.proofs.lemmas.Int.{ints}
use Rattle.vp_inter.specs.declared.vector.PlaneVector.{PlaneVector}
use Rattle.vp_search.specs.declared.vector.QuarterVector.{QuarterVector}
use Rattle.vp_search.specs.Vectors.{quarters}
use Rattle.vp_inter.specs.Vectors.{luma_vector}
use Rattle.vp_inter.specs.Inter.{inter_pixel}
use Rattle.vp_search.specs.Differences.{block16}
use Rattle.vp_search.specs.Blocks.{predicted_block, quarter_cost}
use Rattle.vp_search.proofs.SumLemmas.{sum_of_differences-same}
use Rattle.vp_search.proofs.reference.refine_block.Goals as goal

pub refine_found-requires-clause-cost : goal.refine_found-requires-clause-cost
unfolding quarter_cost
refine_found-requires-clause-cost c =
    let row : c.quarters-row.result.row ≡ pos 4 *ℤ c.args.centre.row = ap (λ (v : QuarterVector). v.row) c.quarters-row.ensures in
    let column : c.quarters-row.result.column ≡ pos 4 *ℤ c.args.centre.column = ap (λ (v : QuarterVector). v.column) c.quarters-row.ensures in
    let er : to_z w32 (of_z w32 c.quarters-row.result.row) ≡ pos 4 *ℤ c.args.centre.row = omega (arith, ints) in
    let ec : to_z w32 (of_z w32 c.quarters-row.result.column) ≡ pos 4 *ℤ c.args.centre.column = omega (arith, ints) in
    let moved = c.luma_vector.ensures ∙ ap₂ luma_vector er ec in
    c.sad16.ensures.value
    ∙ sum_of_differences-same 16 16 (block16 c.args.block.now) (block16 c.args.block.now) (block16 c.predict_block-prediction.result)
    (predicted_block c.args.reference.now c.args.place (quarters c.args.centre)) (λ r k h i. refl)
    (λ r k h i. c.predict_block-prediction.ensures r k h i
    ∙ ap (λ (v : PlaneVector). inter_pixel 0 c.args.reference.now (16 * c.args.place.column) (16 * c.args.place.row) v r k) moved)
