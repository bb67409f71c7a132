use Rattle.std.proofs.Common.{◌∙◌, ◌+◌, ℕ, List, length, sym, ap, arith}
use lib.Lanes.{chunk}
use Rattle.vp_intra.proofs.EdgeLemmas.{right_run}
use Rattle.vp_intra.proofs.sub.above_right.Goals as goal

pub returns-then-x-width : goal.returns-then-x-width
returns-then-x-width c =
    c.load4.ensures
    ∙ ap (λ (run : List ℕ). chunk (c.args.x + 4) 4 run) c.row.ensures.value
    ∙ right_run c.args.plane.now c.args.x c.args.y c.row_of_above_right-row.result c.row_of_above_right-row.ensures.value (omega arith) (omega arith)
    (ap length (sym c.row.ensures.value) ∙ c.row.ensures.len)
