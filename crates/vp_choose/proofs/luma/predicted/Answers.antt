use Rattle.std.proofs.Common.{◌∙◌, ◌*◌}
use Rattle.vp_intra.specs.Whole.{luma_pixel}
use Rattle.vp_choose.specs.Costs.{luma_mode_cost}
use Rattle.vp_choose.proofs.Listed.{differences-listed}
use Rattle.vp_choose.proofs.luma.predicted.Goals as goal

pub returns-clause-cost : goal.returns-clause-cost
unfolding luma_mode_cost
returns-clause-cost c f e =
    c.sad16-cost.ensures.value
    ∙ differences-listed 16 c.args.block.now c.predict_luma-prediction.result f
    (luma_pixel c.args.mode c.args.plane.now (16 * c.args.place.column) (16 * c.args.place.row)) e c.predict_luma-prediction.ensures
