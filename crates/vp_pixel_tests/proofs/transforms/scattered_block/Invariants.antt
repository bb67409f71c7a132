use Rattle.std.proofs.Common.{◌≡◌, ◌^◌, length}
use Rattle.vp_transform.specs.Fits.{EachWithin}
use Rattle.vp_pixel_tests.proofs.transforms.scattered_block.Given as goal

abbrev pub invariant-loop-i : goal.invariant-loop-i
invariant-loop-i l = record { size : length l.block ≡ 16; small : EachWithin (2 ^ 14) l.block }
