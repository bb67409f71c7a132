use Rattle.std.proofs.Common.{◌≡◌, ◌∙◌, ℕ, ◌+◌, ◌*◌, ap, arith}
use Rattle.vp_loop.specs.declared.edges.Edge.{Edge}
use Rattle.vp_loop.specs.Edges.{pick, edge_lines}
use Rattle.vp_loop.specs.Lanes.{on_planes}
use Rattle.vp_loop.proofs.EdgeLemmas.{first_edges, first_edges-none, first_edges-more, first_edges-all}
use Rattle.vp_loop.proofs.edges.filter_subblock_edges.Goals as goal

pub loop-i-init : goal.loop-i-init
loop-i-init c = first_edges-none c.args.edge.planes c.args.edge.orientation c.args.step c.args.edge.x c.args.edge.y c.args.picture.now

pub loop-i-preserved : goal.loop-i-preserved
loop-i-preserved c =
    let e = c.args.edge in
    let i = c.loop-i.i in
    c.filter_edge.ensures
    ∙ (ap (λ (e : Edge). on_planes e.planes (λ n lane. edge_lines e.orientation c.args.step n e.x e.y) c.loop-i.picture) c.after.ensures
    ∙ (ap (on_planes e.planes (λ n lane. edge_lines e.orientation c.args.step n (pick e.orientation (e.x + 4 * i) e.x) (pick e.orientation e.y (e.y + 4 * i)))) c.loop-i.invariant
    ∙ first_edges-more e.planes e.orientation c.args.step e.x e.y i c.args.picture.now))

pub returns : goal.returns
returns c =
    let e = c.args.edge in
    let inside = c.edges_inside-i-end.ensures in
    let all : c.loop-i.i ≡ c.edges_inside-i-end.result = omega arith in
    c.loop-i.invariant
    ∙ (ap (λ (m : ℕ). on_planes e.planes (first_edges e.orientation c.args.step e.x e.y m) c.args.picture.now) (all ∙ inside)
    ∙ first_edges-all e.planes e.orientation c.args.step e.x e.y c.args.picture.now)
