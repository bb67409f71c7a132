use Rattle.std.proofs.Common.{◌∙◌, ℕ, ◌+◌, List, slice_range, length, sym, ap, arith}
use Rattle.vp_intra.proofs.EdgeLemmas.{above_run, above_fill}
use Rattle.vp_intra.proofs.edges.edge_above.Goals as goal

pub returns-then-y-gt0 : goal.returns-then-y-gt0
returns-then-y-gt0 g c =
    c.copy_from_slice.ensures.after
    ∙ ap (λ (run : List ℕ). slice_range run c.args.x (c.args.x + g.row.N)) c.row.ensures.value
    ∙ above_run c.args.plane.now c.args.x c.args.y g.row.N (omega arith) c.requires.columns (ap length (sym c.row.ensures.value) ∙ c.row.ensures.len)

pub returns-else-y-gt0 : goal.returns-else-y-gt0
returns-else-y-gt0 g c = above_fill c.args.plane.now c.args.x c.args.y g.row.N (omega arith)
