use Rattle.std.proofs.Common.{◌≡◌}
use Rattle.vp_loop.specs.Lanes.{on_planes}
use Rattle.vp_loop.proofs.EdgeLemmas.{first_edges}
use Rattle.vp_loop.proofs.edges.filter_subblock_edges.Given as goal

abbrev pub invariant-loop-i : goal.invariant-loop-i
invariant-loop-i l = l.picture ≡ on_planes l.edge.planes (first_edges l.edge.orientation l.step l.edge.x l.edge.y l.i) l.initial.picture
