use Rattle.std.proofs.Common.{◌≡◌, ◌++◌}
use Rattle.std.specs.List.{flat_map, range_with_len}
use Rattle.vp_still.specs.Ppm.{row_in}
use Rattle.vp_still.proofs.ppm.put_rows.Given as goal

abbrev pub invariant-loop-y : goal.invariant-loop-y
invariant-loop-y l = l.out.items ≡ l.initial.out.items ++ flat_map (row_in l.fn.dim.w l.fn.dim.h l.pixels) (range_with_len 0 l.y)
