use Rattle.std.proofs.Common.{rules}
use Rattle.vp_intra.proofs.BlockLemmas.{is_block}
use Rattle.vp_choose.proofs.frame_chooser.cut_blocks.Goals as goal

pub returns : goal.returns
returns c = record {
  luma = rw (← c.plane.ensures) (is_block 16 _ c.cut_luma.result (search rules) c.cut_luma.ensures);
  u = rw (← c.plane-2.ensures) (is_block 8 _ c.cut_block.result (search rules) c.cut_block.ensures);
  v = rw (← c.plane-3.ensures) (is_block 8 _ c.cut_block-2.result (search rules) c.cut_block-2.ensures);
}
