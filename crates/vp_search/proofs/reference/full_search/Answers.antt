use Rattle.std.proofs.Common.{◌∙◌}
use Rattle.vp_search.specs.Differences.{block16}
use Rattle.vp_search.specs.Vectors.{quarters}
use Rattle.vp_search.specs.Blocks.{macroblock_pixels, whole_cost}
use Rattle.vp_search.proofs.WindowLemmas.{least_same, whole_cost-same, quarter_cost-same}
use Rattle.vp_search.proofs.reference.full_search.Goals as goal

pub returns-clause-cost : goal.returns-clause-cost
returns-clause-cost c =
    c.search_block.ensures.cost
    ∙ whole_cost-same (block16 c.cut_luma.result) (macroblock_pixels c.args.source.now c.args.place) c.args.reference.now c.args.place c.search_block.result.vector c.cut_luma.ensures

pub returns-clause-least : goal.returns-clause-least
returns-clause-least c =
    least_same c.args.range (whole_cost (block16 c.cut_luma.result) c.args.reference.now c.args.place) (whole_cost (macroblock_pixels c.args.source.now c.args.place) c.args.reference.now c.args.place)
    c.search_block.result.vector
    (λ v near. whole_cost-same (block16 c.cut_luma.result) (macroblock_pixels c.args.source.now c.args.place) c.args.reference.now c.args.place v c.cut_luma.ensures)
    c.search_block.ensures.least

pub returns-clause-predicted : goal.returns-clause-predicted
returns-clause-predicted c =
    c.search_block.ensures.predicted
    ∙ quarter_cost-same (block16 c.cut_luma.result) (macroblock_pixels c.args.source.now c.args.place) c.args.reference.now c.args.place (quarters c.search_block.result.vector) c.cut_luma.ensures
