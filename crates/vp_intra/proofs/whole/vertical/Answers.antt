use Rattle.std.proofs.Common.{◌∙◌, get_or, arith}
use Rattle.vp_intra.proofs.BlockLemmas.{is_block}
use Rattle.vp_intra.proofs.whole.vertical.Goals as goal

pub returns : goal.returns
returns g c =
    is_block g.row.N (λ r k. get_or c.args.above.now k 0) c.loop-r.pixels
    (c.loop-r.invariant.size ∙ c.requires.square)
    (λ r k rin kin. c.loop-r.invariant.done r k (omega arith) kin)
