use Rattle.std.proofs.Common.{◌∙◌, ◌+◌, ◌*◌, ap₂}
use Rattle.vp_intra.specs.Whole.{chroma_pixel}
use Rattle.vp_choose.specs.Costs.{block_pixels, plane_cost}
use Rattle.vp_choose.proofs.Listed.{differences-listed}
use Rattle.vp_choose.proofs.chroma.predicted.Goals as goal

pub returns-clause-cost : goal.returns-clause-cost
unfolding plane_cost
returns-clause-cost c source cut =
    let p = c.args.picture.now in
    let x = 8 * c.args.place.column in
    let y = 8 * c.args.place.row in
    ap₂ ◌+◌
    (c.sad8.ensures.value ∙ differences-listed 8 c.args.blocks.now.u c.predict_chroma-u.result
    (block_pixels 8 source.u c.args.place) (chroma_pixel c.args.mode p.u x y) cut.u (rw c.plane.ensures at c.predict_chroma-u.ensures))
    (c.sad8-2.ensures.value ∙ differences-listed 8 c.args.blocks.now.v c.predict_chroma-v.result
    (block_pixels 8 source.v c.args.place) (chroma_pixel c.args.mode p.v x y) cut.v (rw c.plane-2.ensures at c.predict_chroma-v.ensures))
