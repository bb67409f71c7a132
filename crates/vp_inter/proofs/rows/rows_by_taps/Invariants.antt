use Rattle.vp_inter.specs.Patches.{patch_pass}
use Rattle.vp_inter.specs.Written.{IsBlockWritten}
use Rattle.vp_inter.proofs.rows.rows_by_taps.Given as goal

abbrev pub invariant-loop-i : goal.invariant-loop-i
invariant-loop-i g l = record { done : IsBlockWritten g.row.N l.i l.initial.pixels l.pixels l.at l.stride (patch_pass l.weights l.patch) }
