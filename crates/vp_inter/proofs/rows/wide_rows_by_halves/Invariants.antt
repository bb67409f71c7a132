use Rattle.vp_inter.specs.Patches.{patch_pass, weights_of}
use Rattle.vp_inter.specs.Written.{IsBlockWritten}
use Rattle.vp_inter.proofs.rows.wide_rows_by_halves.Given as goal

abbrev pub invariant-loop-i : goal.invariant-loop-i
invariant-loop-i g l = record { done : IsBlockWritten 16 l.i l.initial.pixels l.pixels l.at l.stride (patch_pass (weights_of l.filter.left.weights) l.patch) }
