use Rattle.std.proofs.Common.{◌∙◌, ℕ, replicate, refl, sym, ap, w8}
use Rattle.vp_base.specs.Raster.{Raster}
use Rattle.vp_tables.specs.declared.modes.ChromaMode.{ChromaMode}
use Rattle.vp_lanes.proofs.Shape.{unsigned_lanes}
use Rattle.vp_intra.specs.Edges.{block}
use Rattle.vp_intra.specs.Whole.{chroma_pixel}
use Rattle.vp_intra.proofs.BlockLemmas.{even_block, even_bytes, vertical_block, horizontal_block, true_motion_block, block_written, block_bytes}
use Rattle.vp_intra.proofs.whole.predict_chroma_into.Goals as goal

pub returns-in-Dc-clause-value : goal.returns-in-Dc-clause-value
unfolding chroma_pixel
returns-in-Dc-clause-value c =
    let p : Raster = c.plane-plane.result.now in
    c.write_block.ensures
    ∙ block_written c.args.picture.now c.args.k c.args.x c.args.y 8 _ p (chroma_pixel c.args.mode) c.plane-plane.ensures
    (even_block 8 64 c.edge_mean-mean.result refl
    ∙ ap (λ (v : ℕ). block 8 (λ _ _. v)) c.edge_mean-mean.ensures
    ∙ ap (λ (m : ChromaMode). block 8 (chroma_pixel m p c.args.x c.args.y)) (sym c.in-Dc.is))

pub returns-in-Dc-clause-bytes : goal.returns-in-Dc-clause-bytes
unfolding chroma_pixel
returns-in-Dc-clause-bytes c =
    let p : Raster = c.plane-plane.result.now in
    block_bytes c.args.picture.now c.args.k c.args.x c.args.y 8 (replicate 64 c.edge_mean-mean.result) p (chroma_pixel c.args.mode) c.plane-plane.ensures
    (even_block 8 64 c.edge_mean-mean.result refl
    ∙ ap (λ (v : ℕ). block 8 (λ _ _. v)) c.edge_mean-mean.ensures
    ∙ ap (λ (m : ChromaMode). block 8 (chroma_pixel m p c.args.x c.args.y)) (sym c.in-Dc.is))
    (even_bytes 64 c.edge_mean-mean.result c.edge_mean-mean.type_inv)

pub returns-in-V-clause-value : goal.returns-in-V-clause-value
unfolding chroma_pixel
returns-in-V-clause-value c =
    let p : Raster = c.plane-plane.result.now in
    c.write_block-in-V.ensures
    ∙ block_written c.args.picture.now c.args.k c.args.x c.args.y 8 _ p (chroma_pixel c.args.mode) c.plane-plane.ensures
    (c.vertical-block.ensures
    ∙ vertical_block 8 p c.args.x c.args.y c.edge_above.result c.edge_above.ensures
    ∙ ap (λ (m : ChromaMode). block 8 (chroma_pixel m p c.args.x c.args.y)) (sym c.in-V.is))

pub returns-in-V-clause-bytes : goal.returns-in-V-clause-bytes
unfolding chroma_pixel
returns-in-V-clause-bytes c =
    let p : Raster = c.plane-plane.result.now in
    block_bytes c.args.picture.now c.args.k c.args.x c.args.y 8 c.vertical-block.result p (chroma_pixel c.args.mode) c.plane-plane.ensures
    (c.vertical-block.ensures
    ∙ vertical_block 8 p c.args.x c.args.y c.edge_above.result c.edge_above.ensures
    ∙ ap (λ (m : ChromaMode). block 8 (chroma_pixel m p c.args.x c.args.y)) (sym c.in-V.is))
    (unsigned_lanes w8 64 c.vertical-block.result _ c.vertical-block.type_inv)

pub returns-in-H-clause-value : goal.returns-in-H-clause-value
unfolding chroma_pixel
returns-in-H-clause-value c =
    let p : Raster = c.plane-plane.result.now in
    c.write_block-in-H.ensures
    ∙ block_written c.args.picture.now c.args.k c.args.x c.args.y 8 _ p (chroma_pixel c.args.mode) c.plane-plane.ensures
    (c.horizontal-block.ensures
    ∙ horizontal_block 8 p c.args.x c.args.y c.edge_left.result c.edge_left.ensures
    ∙ ap (λ (m : ChromaMode). block 8 (chroma_pixel m p c.args.x c.args.y)) (sym c.in-H.is))

pub returns-in-H-clause-bytes : goal.returns-in-H-clause-bytes
unfolding chroma_pixel
returns-in-H-clause-bytes c =
    let p : Raster = c.plane-plane.result.now in
    block_bytes c.args.picture.now c.args.k c.args.x c.args.y 8 c.horizontal-block.result p (chroma_pixel c.args.mode) c.plane-plane.ensures
    (c.horizontal-block.ensures
    ∙ horizontal_block 8 p c.args.x c.args.y c.edge_left.result c.edge_left.ensures
    ∙ ap (λ (m : ChromaMode). block 8 (chroma_pixel m p c.args.x c.args.y)) (sym c.in-H.is))
    (unsigned_lanes w8 64 c.horizontal-block.result _ c.horizontal-block.type_inv)

pub returns-in-Tm-clause-value : goal.returns-in-Tm-clause-value
unfolding chroma_pixel
returns-in-Tm-clause-value c =
    let p : Raster = c.plane-plane.result.now in
    c.write_block-in-Tm.ensures
    ∙ block_written c.args.picture.now c.args.k c.args.x c.args.y 8 _ p (chroma_pixel c.args.mode) c.plane-plane.ensures
    (c.true_motion-block.ensures
    ∙ true_motion_block 8 p c.args.x c.args.y c.edge_above-above.result c.edge_left-left.result c.edge_corner-corner.result
    c.edge_above-above.ensures c.edge_left-left.ensures c.edge_corner-corner.ensures
    ∙ ap (λ (m : ChromaMode). block 8 (chroma_pixel m p c.args.x c.args.y)) (sym c.in-Tm.is))

pub returns-in-Tm-clause-bytes : goal.returns-in-Tm-clause-bytes
unfolding chroma_pixel
returns-in-Tm-clause-bytes c =
    let p : Raster = c.plane-plane.result.now in
    block_bytes c.args.picture.now c.args.k c.args.x c.args.y 8 c.true_motion-block.result p (chroma_pixel c.args.mode) c.plane-plane.ensures
    (c.true_motion-block.ensures
    ∙ true_motion_block 8 p c.args.x c.args.y c.edge_above-above.result c.edge_left-left.result c.edge_corner-corner.result
    c.edge_above-above.ensures c.edge_left-left.ensures c.edge_corner-corner.ensures
    ∙ ap (λ (m : ChromaMode). block 8 (chroma_pixel m p c.args.x c.args.y)) (sym c.in-Tm.is))
    (unsigned_lanes w8 64 c.true_motion-block.result _ c.true_motion-block.type_inv)
