use Rattle.vp_ivf.proofs.Cuts.{waits}
use Rattle.vp_ivf.proofs.cutting.is_waiting.Goals as goal

pub returns-in-Ok-None : goal.returns-in-Ok-None
returns-in-Ok-None c = λ _.
    waits c.args.head c.in-Some.field-0 c.args.max c.args.left c.args.bytes.now c.in-Some.is (rw c.in-Ok-None.field-0-is at c.in-Ok-None.ensures.value)
