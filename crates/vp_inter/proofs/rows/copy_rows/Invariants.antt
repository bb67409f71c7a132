use Rattle.vp_inter.specs.Patches.{patch_pixel}
use Rattle.vp_inter.specs.Written.{IsBlockWritten}
use Rattle.vp_inter.proofs.rows.copy_rows.Given as goal

abbrev pub invariant-loop-r : goal.invariant-loop-r
invariant-loop-r g l = record { done : IsBlockWritten g.row.N l.r l.initial.pixels l.pixels l.at l.stride (patch_pixel l.patch) }
