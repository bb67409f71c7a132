use Rattle.std.proofs.Common.{◌∙◌, ℕ, ◌+◌, ◌*◌, pos, List, get_or, ap}
use Rattle.vp_recon.proofs.Words.{Raster, with_plane, with_block_same, block, sub_pixel, read_block, residue, summed}
use Rattle.vp_recon.proofs.macroblock.rebuild_sub.Goals as goal

pub returns : goal.returns
returns c =
    let x : ℕ = 4 * c.args.block.column in
    let y : ℕ = 4 * c.args.block.row in
    let own = residue c.args.levels.now.levels c.args.factors.now.y_dc c.args.factors.now.y_ac in
    c.write_block.ensures
    ∙ ap (with_plane c.args.picture.now 0) (with_block_same c.args.picture.now.luma x y 4 4 _ _ (λ r j rin jin.
    c.with_residue-pixels.ensures r j rin jin
    ∙ ap (λ (q : ℕ). summed q (get_or own (4 * r + j) (pos 0)))
    (ap (λ (ps : List ℕ). get_or ps (r * 4 + j) 0) (c.predict_sub-prediction.ensures ∙ ap (λ (s : Raster). block 4 (sub_pixel c.args.mode s x y)) c.plane-3.ensures)
    ∙ read_block 4 (sub_pixel c.args.mode c.args.picture.now.luma x y) r j rin jin)))
