use Rattle.std.proofs.Common.{◌∙◌, ℕ, refl, sym, ap}
use Rattle.vp_tables.specs.declared.modes.LumaMode.{LumaMode}
use Rattle.vp_intra.specs.Edges.{block}
use Rattle.vp_intra.specs.Whole.{luma_pixel}
use Rattle.vp_intra.proofs.BlockLemmas.{even_block, vertical_block, horizontal_block, true_motion_block}
use Rattle.vp_intra.proofs.whole.predict_luma.Goals as goal

pub returns-in-Dc : goal.returns-in-Dc
unfolding luma_pixel
returns-in-Dc c =
    even_block 16 256 c.edge_mean.result refl
    ∙ ap (λ (v : ℕ). block 16 (λ _ _. v)) c.edge_mean.ensures
    ∙ ap (λ (m : LumaMode). block 16 (luma_pixel m c.args.plane.now c.args.x c.args.y)) (sym c.in-Dc.is)

pub returns-in-V : goal.returns-in-V
unfolding luma_pixel
returns-in-V c =
    c.vertical.ensures
    ∙ vertical_block 16 c.args.plane.now c.args.x c.args.y c.edge_above.result c.edge_above.ensures
    ∙ ap (λ (m : LumaMode). block 16 (luma_pixel m c.args.plane.now c.args.x c.args.y)) (sym c.in-V.is)

pub returns-in-H : goal.returns-in-H
unfolding luma_pixel
returns-in-H c =
    c.horizontal.ensures
    ∙ horizontal_block 16 c.args.plane.now c.args.x c.args.y c.edge_left.result c.edge_left.ensures
    ∙ ap (λ (m : LumaMode). block 16 (luma_pixel m c.args.plane.now c.args.x c.args.y)) (sym c.in-H.is)

pub returns-in-Tm : goal.returns-in-Tm
unfolding luma_pixel
returns-in-Tm c =
    c.true_motion.ensures
    ∙ true_motion_block 16 c.args.plane.now c.args.x c.args.y c.edge_above-in-Tm.result c.edge_left-in-Tm.result c.edge_corner.result
    c.edge_above-in-Tm.ensures c.edge_left-in-Tm.ensures c.edge_corner.ensures
    ∙ ap (λ (m : LumaMode). block 16 (luma_pixel m c.args.plane.now c.args.x c.args.y)) (sym c.in-Tm.is)
