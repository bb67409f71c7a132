use Rattle.std.proofs.Common.{◌+◌}
use Rattle.vp_loop.specs.declared.edges.Orientation.TheVariants.{Vertical, Horizontal}
use Rattle.vp_loop.proofs.RowReads.{corner_lines}
use Rattle.vp_loop.proofs.load.load_chroma.Goals as goal

pub returns-in-Vertical-clause-first : goal.returns-in-Vertical-clause-first
returns-in-Vertical-clause-first c =
    corner_lines c.args.edge c.corner-u_rows.result c.transpose.result (λ k. k) c.args.u.now Vertical c.in-Vertical.is c.corner-u_rows.ensures c.requires.u c.transpose.ensures.first

pub returns-in-Vertical-clause-second : goal.returns-in-Vertical-clause-second
returns-in-Vertical-clause-second c =
    corner_lines c.args.edge c.corner-v_rows.result c.transpose.result (λ k. k + 8) c.args.v.now Vertical c.in-Vertical.is c.corner-v_rows.ensures c.requires.v c.transpose.ensures.second

pub returns-in-Horizontal-clause-first : goal.returns-in-Horizontal-clause-first
returns-in-Horizontal-clause-first c =
    corner_lines c.args.edge c.corner-u_rows.result c.join.result (λ k. k) c.args.u.now Horizontal c.in-Horizontal.is c.corner-u_rows.ensures c.requires.u c.join.ensures.first

pub returns-in-Horizontal-clause-second : goal.returns-in-Horizontal-clause-second
returns-in-Horizontal-clause-second c =
    corner_lines c.args.edge c.corner-v_rows.result c.join.result (λ k. k + 8) c.args.v.now Horizontal c.in-Horizontal.is c.corner-v_rows.ensures c.requires.v c.join.ensures.second
