use Rattle.vp_head.proofs.Numbers.{literal-small}
use Rattle.vp_head.proofs.rows.number.Goals as goal

pub returns-clause-small : goal.returns-clause-small
returns-clause-small c = rw c.literal.ensures.value (literal-small c.args.bits _)
