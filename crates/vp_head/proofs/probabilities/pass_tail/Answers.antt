use Rattle.vp_head.proofs.TailLemmas.{tail_kept}
use Rattle.vp_head.proofs.probabilities.pass_tail.Goals as goal

pub returns-then-has_rare_tail-clause-passed : goal.returns-then-has_rare_tail-clause-passed
returns-then-has_rare_tail-clause-passed c h xs ys s e =
    rw (c.pass_rare.ensures.after h) (tail_kept 8 3 c.args.table.now xs ys s c.args.d.now e (c.has_rare_tail.ensures c.if-has_rare_tail.true) (c.pass_rare.ensures.bools h))
