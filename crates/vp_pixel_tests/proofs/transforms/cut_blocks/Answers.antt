use Rattle.vp_transform.proofs.Bounds.{idct_fits_tested}
use Rattle.vp_pixel_tests.proofs.transforms.cut_blocks.Goals as goal

pub check_idct_cut-requires : goal.check_idct_cut-requires
check_idct_cut-requires g c = idct_fits_tested _ tt

pub check_idct_cut-requires-2 : goal.check_idct_cut-requires-2
check_idct_cut-requires-2 g c = idct_fits_tested _ tt

pub check_idct_cut-requires-3 : goal.check_idct_cut-requires-3
check_idct_cut-requires-3 g c = idct_fits_tested _ tt

pub check_idct_cut-requires-4 : goal.check_idct_cut-requires-4
check_idct_cut-requires-4 g c = idct_fits_tested _ tt
