use Rattle.std.proofs.Common.{◌∙◌, ℕ, Option, ap, sym, subst}
use Rattle.vp_loop.specs.declared.lines.LineStep.{LineStep}
use Rattle.vp_loop.specs.Edges.{subblock_edges, macroblock_edge, block_edges}
use Rattle.vp_loop.specs.Lanes.{KeepsEnds, on_planes}
use Rattle.vp_loop.proofs.EdgeWrites.{keeps_two}
use Rattle.vp_loop.proofs.EdgeLemmas.{own_alone, own_and_inner}
use Rattle.vp_loop.proofs.edges.filter_parallel_edges.Goals as goal

pub filter_subblock_edges-requires-clause-ends : goal.filter_subblock_edges-requires-clause-ends
filter_subblock_edges-requires-clause-ends g c = subst (KeepsEnds 2) (sym c.subblock_step.ensures) (keeps_two c.args.limits c.in-Some.limit)

pub returns-in-None : goal.returns-in-None
returns-in-None g c =
    let e = c.args.edge in
    let limits = c.args.limits in
    let p = c.args.picture.now in
    c.filter_macroblock_edge.ensures
    ∙ (ap (λ (step : LineStep). on_planes e.planes (λ n lane. macroblock_edge e.orientation step n e.x e.y) p) c.macroblock_step.ensures
    ∙ (own_alone e.planes e.orientation limits e.x e.y p
    ∙ ap (λ (inner : Option ℕ). on_planes e.planes (λ n lane. block_edges e.orientation n (record limits { subblock = inner }) e.x e.y) p) (sym c.in-None.is)))

pub returns-in-Some : goal.returns-in-Some
returns-in-Some g c =
    let e = c.args.edge in
    let limits = c.args.limits in
    let p = c.args.picture.now in
    c.filter_subblock_edges.ensures
    ∙ (ap (λ (step : LineStep). on_planes e.planes (λ n lane. subblock_edges e.orientation step n e.x e.y) c.filter_macroblock_edge.new.picture) c.subblock_step.ensures
    ∙ (own_and_inner e.planes e.orientation limits c.in-Some.limit e.x e.y p c.filter_macroblock_edge.new.picture
    (c.filter_macroblock_edge.ensures ∙ ap (λ (step : LineStep). on_planes e.planes (λ n lane. macroblock_edge e.orientation step n e.x e.y) p) c.macroblock_step.ensures)
    ∙ ap (λ (inner : Option ℕ). on_planes e.planes (λ n lane. block_edges e.orientation n (record limits { subblock = inner }) e.x e.y) p) (sym c.in-Some.is)))
