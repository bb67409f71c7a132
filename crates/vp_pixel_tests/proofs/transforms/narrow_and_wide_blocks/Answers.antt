use Rattle.vp_transform.proofs.Bounds.{idct_fits_tested}
use Rattle.vp_pixel_tests.proofs.transforms.narrow_and_wide_blocks.Goals as goal

pub check_idct-requires : goal.check_idct-requires
check_idct-requires g c = idct_fits_tested _ tt

pub check_idct-requires-2 : goal.check_idct-requires-2
check_idct-requires-2 g c = idct_fits_tested _ tt

pub check_idct-requires-3 : goal.check_idct-requires-3
check_idct-requires-3 g c = idct_fits_tested _ tt

pub check_idct-requires-4 : goal.check_idct-requires-4
check_idct-requires-4 g c = idct_fits_tested _ tt
