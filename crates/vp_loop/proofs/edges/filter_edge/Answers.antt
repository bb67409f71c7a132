use Rattle.std.proofs.Common.{◌∙◌}
use Rattle.vp_loop.proofs.EdgeWrites.{stored_edge, still_edge}
use Rattle.vp_loop.proofs.edges.filter_edge.Goals as goal

pub returns-in-None : goal.returns-in-None
returns-in-None c = still_edge c.args.edge c.args.step c.load_lines.result c.args.picture.now c.in-None.ensures c.load_lines.ensures

pub returns-in-Some : goal.returns-in-Some
returns-in-Some c =
    c.store_lines.ensures ∙ stored_edge c.args.edge c.args.step c.load_lines.result c.in-Some.lines c.args.inside c.requires.ends c.in-Some.ensures c.args.picture.now c.load_lines.ensures
