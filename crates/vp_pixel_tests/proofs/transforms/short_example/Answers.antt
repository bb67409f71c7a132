use Rattle.std.proofs.Common.{pos, negsuc, [], ◌∷◌}
use Rattle.vp_transform.proofs.Bounds.{each-tested}
use Rattle.vp_pixel_tests.proofs.transforms.short_example.Goals as goal

pub idct_short-requires : goal.idct_short-requires
idct_short-requires g c =
    each-tested 8191
    (negsuc 699 ∷ pos 123 ∷ negsuc 44 ∷ pos 6 ∷ pos 77 ∷ negsuc 887 ∷ pos 99 ∷ negsuc 9 ∷ pos 11 ∷ pos 12 ∷ negsuc 1312 ∷ pos 14 ∷ negsuc 14 ∷ pos 160 ∷ pos 17 ∷ negsuc 1817 ∷ [])
    tt
