use Rattle.std.proofs.Common.{◌≡◌, ℕ, ◌+◌, ◌*◌, ◌<◌, length, get_or}
use Rattle.vp_intra.specs.Edges.{clamped_pixel}
use Rattle.vp_intra.proofs.whole.true_motion.Given as goal

abbrev pub invariant-loop-r : goal.invariant-loop-r
invariant-loop-r g l = record { size : length l.pixels ≡ g.row.M; done : (k c : ℕ) → k < l.r → c < g.row.N → get_or l.pixels (k * g.row.N + c) 0 ≡ clamped_pixel (get_or l.left k 0) (get_or l.above c 0) l.corner }
