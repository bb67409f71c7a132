use Rattle.std.proofs.Common.{◌∙◌, ap}
use Rattle.vp_base.specs.Image.{with_plane}
use Rattle.vp_recon.proofs.ResidueLemmas.{luma_sums}
use Rattle.vp_recon.proofs.add.add_large_luma.Goals as goal

pub returns : goal.returns
returns c =
    let p = c.args.picture.now in
    c.add_large_to_block.ensures
    ∙ ap (with_plane p 0) (luma_sums c.args.tokens.now c.args.factors.now c.factors.inside.raw c.factors.view_is p.luma c.args.x c.args.y c.args.y2 c.large_luma_dcs.result c.large_luma_dcs.ensures.value)
