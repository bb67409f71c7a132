use Rattle.std.proofs.Common.{◌^◌, arith}
use Rattle.vp_transform.proofs.Bounds.{idct_fits, iwht_fits}
use Rattle.vp_pixel_tests.proofs.transforms.scattered_blocks.Goals as goal

pub check_idct-requires : goal.check_idct-requires
check_idct-requires g c = idct_fits (2 ^ 14) _ c.scattered_block-block.ensures (omega arith)

pub check_iwht-requires : goal.check_iwht-requires
check_iwht-requires g c = iwht_fits (2 ^ 14) _ c.scattered_block-block.ensures (omega arith)

pub check_idct_cut-requires : goal.check_idct_cut-requires
check_idct_cut-requires g c = idct_fits (2 ^ 14) _ c.scattered_block-block.ensures (omega arith)
