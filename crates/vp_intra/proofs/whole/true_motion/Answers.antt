use Rattle.std.proofs.Common.{◌∙◌, get_or, arith}
use Rattle.vp_intra.specs.Edges.{clamped_pixel}
use Rattle.vp_intra.proofs.BlockLemmas.{is_block}
use Rattle.vp_intra.proofs.whole.true_motion.Goals as goal

pub returns : goal.returns
returns g c =
    is_block g.row.N (λ r k. clamped_pixel (get_or c.args.left.now r 0) (get_or c.args.above.now k 0) c.args.corner) c.loop-r.pixels
    (c.loop-r.invariant.size ∙ c.requires.square)
    (λ r k rin kin. c.loop-r.invariant.done r k (omega arith) kin)
