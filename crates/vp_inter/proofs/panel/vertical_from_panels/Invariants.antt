use Rattle.std.proofs.Common.{ℕ, ◌+◌, ◌*◌}
use Rattle.vp_inter.specs.Filter.{filter_six}
use Rattle.vp_inter.specs.Patches.{weights_of}
use Rattle.vp_inter.specs.Panels.{ArePanels}
use Rattle.vp_inter.specs.Written.{IsBlockWritten}
use Rattle.vp_inter.proofs.panel.vertical_from_panels.Given as goal

abbrev pub invariant-loop-e : goal.invariant-loop-e
invariant-loop-e l = record {
  done : (pixel : ℕ → ℕ → ℕ) → ArePanels l.left l.right pixel
      → IsBlockWritten 16 (3 * l.e) l.initial.pixels l.pixels l.at l.stride (λ r c. filter_six (weights_of l.filter.weights) (λ k. pixel (r + k) c));
}
