use Rattle.vp_loop.proofs.EdgeWrites.{keeps_outer}
use Rattle.vp_loop.proofs.edges.filter_macroblock_edge.Goals as goal

pub filter_edge-requires-in-Horizontal-clause-ends : goal.filter_edge-requires-in-Horizontal-clause-ends
filter_edge-requires-in-Horizontal-clause-ends g c = keeps_outer c.args.edge.orientation c.args.step
