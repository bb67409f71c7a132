use Rattle.std.proofs.Common.{◌∙◌, ap}
use Rattle.vp_loop.specs.declared.edges.Orientation.TheVariants.{Vertical, Horizontal}
use Rattle.vp_loop.specs.Edges.{block_edges, block_filtered}
use Rattle.vp_loop.specs.Lanes.{on_planes}
use Rattle.vp_loop.proofs.EdgeLemmas.{on_planes-then}
use Rattle.vp_loop.proofs.edges.filter_planes.Goals as goal

pub returns : goal.returns
unfolding block_filtered
returns g c =
    let limits = c.args.limits in
    let x = c.args.x in
    let y = c.args.y in
    c.filter_parallel_edges-2.ensures
    ∙ (ap (on_planes c.args.planes (λ n lane. block_edges Horizontal n limits x y)) c.filter_parallel_edges.ensures
    ∙ on_planes-then c.args.planes (λ n lane. block_edges Vertical n limits x y) (λ n lane. block_edges Horizontal n limits x y) c.args.picture.now)
