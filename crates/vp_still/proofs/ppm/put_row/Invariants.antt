use Rattle.std.proofs.Common.{◌≡◌, ◌++◌}
use Rattle.std.specs.List.{flat_map, range_with_len}
use Rattle.vp_still.specs.Ppm.{rgb_in}
use Rattle.vp_still.proofs.ppm.put_row.Given as goal

abbrev pub invariant-loop-x : goal.invariant-loop-x
invariant-loop-x l = l.out.items ≡ l.initial.out.items ++ flat_map (rgb_in l.luma l.u l.v) (range_with_len 0 l.x)
