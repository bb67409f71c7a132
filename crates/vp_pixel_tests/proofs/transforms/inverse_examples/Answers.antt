use Rattle.vp_transform.proofs.Bounds.{idct_fits_tested}
use Rattle.vp_pixel_tests.proofs.transforms.inverse_examples.Goals as goal

pub idct-requires : goal.idct-requires
idct-requires g c = idct_fits_tested _ tt

pub idct-requires-2 : goal.idct-requires-2
idct-requires-2 g c = idct_fits_tested _ tt
