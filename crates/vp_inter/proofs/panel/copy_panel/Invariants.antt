use Rattle.vp_inter.specs.Patches.{patch_pixel}
use Rattle.vp_inter.specs.Panels.{IsPanel}
use Rattle.vp_inter.proofs.panel.copy_panel.Given as goal

abbrev pub invariant-loop-e : goal.invariant-loop-e
invariant-loop-e l = record { done : IsPanel l.panel (patch_pixel l.patch) l.e }
