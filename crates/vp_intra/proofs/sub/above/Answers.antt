use Rattle.std.proofs.Common.{◌∙◌, ℕ, List, length, sym, ap, arith}
use lib.Lanes.{chunk}
use Rattle.vp_intra.proofs.EdgeLemmas.{above_lanes, above_fill}
use Rattle.vp_intra.proofs.sub.above.Goals as goal

pub returns : goal.returns
returns c =
    c.load4.ensures
    ∙ ap (λ (run : List ℕ). chunk c.args.x 4 run) c.row.ensures.value
    ∙ above_lanes c.args.plane.now c.args.x c.args.y (omega arith) c.requires.columns (ap length (sym c.row.ensures.value) ∙ c.row.ensures.len)

pub returns-then-y-eq0 : goal.returns-then-y-eq0
returns-then-y-eq0 c = above_fill c.args.plane.now c.args.x c.args.y 4 (omega arith)
