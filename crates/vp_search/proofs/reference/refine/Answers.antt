use Rattle.std.proofs.Common.{◌∙◌}
use Rattle.vp_search.specs.declared.vector.QuarterVector.{QuarterVector}
use Rattle.vp_search.specs.Differences.{block16}
use Rattle.vp_search.specs.Blocks.{macroblock_pixels, quarter_cost}
use Rattle.vp_search.proofs.WindowLemmas.{quarter_cost-same}
use Rattle.vp_search.proofs.RefinedLemmas.{refined_same}
use Rattle.vp_search.proofs.reference.refine.Goals as goal

pub returns-clause-cost : goal.returns-clause-cost
returns-clause-cost c =
    c.refine_block.ensures.cost
    ∙ quarter_cost-same (block16 c.cut_luma.result) (macroblock_pixels c.args.source.now c.args.place) c.args.reference.now c.args.place c.refine_block.result.vector c.cut_luma.ensures

pub returns-clause-refined : goal.returns-clause-refined
returns-clause-refined c =
    refined_same (quarter_cost (block16 c.cut_luma.result) c.args.reference.now c.args.place) (quarter_cost (macroblock_pixels c.args.source.now c.args.place) c.args.reference.now c.args.place)
    c.args.centre c.refine_block.result.vector
    (λ (v : QuarterVector). quarter_cost-same (block16 c.cut_luma.result) (macroblock_pixels c.args.source.now c.args.place) c.args.reference.now c.args.place v c.cut_luma.ensures)
    c.refine_block.ensures.refined
