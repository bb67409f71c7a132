use Rattle.std.proofs.Common.{◌≡◌, ℕ, ◌+◌, ◌-◌, ◌*◌, ◌<◌, get_or, length}
use Rattle.vp_intra.specs.Edges.{left_pixel}
use Rattle.vp_intra.proofs.edges.edge_left.Given as goal

abbrev pub invariant-loop-r : goal.invariant-loop-r
invariant-loop-r g l = record {
  size : length l.edge ≡ g.row.N;
  place : l.at ≡ (l.y + l.r) * l.stride + (l.x - 1);
  done : (k : ℕ) → k < l.r → get_or l.edge k 0 ≡ left_pixel l.plane l.x l.y k;
}
