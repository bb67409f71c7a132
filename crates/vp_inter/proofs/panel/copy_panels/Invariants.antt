use Rattle.std.proofs.Common.{◌+◌}
use Rattle.vp_inter.specs.Patches.{patch_pixel}
use Rattle.vp_inter.specs.Panels.{IsPanel}
use Rattle.vp_inter.proofs.panel.copy_panels.Given as goal

abbrev pub invariant-loop-e : goal.invariant-loop-e
invariant-loop-e l = record {
  left : IsPanel l.left (patch_pixel l.patch) l.e;
  right : IsPanel l.right (λ r c. patch_pixel l.patch r (8 + c)) l.e;
}
