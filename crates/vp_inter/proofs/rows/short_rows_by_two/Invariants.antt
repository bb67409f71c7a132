use Rattle.std.proofs.Common.{◌*◌}
use Rattle.vp_inter.specs.Patches.{patch_pass, weights_of}
use Rattle.vp_inter.specs.Written.{IsBlockWritten}
use Rattle.vp_inter.proofs.rows.short_rows_by_two.Given as goal

abbrev pub invariant-loop-i : goal.invariant-loop-i
invariant-loop-i g l = record {
  done : IsBlockWritten g.row.N (2 * l.i) l.initial.pixels l.pixels l.at l.stride (patch_pass (weights_of l.filter.weights) l.patch);
}
