use Rattle.std.proofs.Common.{◌∙◌, ◌*◌, ap}
use Rattle.vp_recon.proofs.Words.{with_plane, with_block_same}
use Rattle.vp_recon.proofs.given.rebuild_subblock_from.Goals as goal

pub returns : goal.returns
returns c =
    c.write_block.ensures ∙ ap (with_plane c.args.picture.now 0) (with_block_same c.args.picture.now.luma (4 * c.args.block.column) (4 * c.args.block.row) 4 4 _ _ c.with_residue-pixels.ensures)
