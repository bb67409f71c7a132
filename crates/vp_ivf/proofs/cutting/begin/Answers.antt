use Rattle.vp_ivf.proofs.Cuts.{reads_behind}
use Rattle.vp_ivf.proofs.cutting.begin.Goals as goal

pub returns-in_ok-cutting-in-Ok-Some-clause-reading : goal.returns-in_ok-cutting-in-Ok-Some-clause-reading
returns-in_ok-cutting-in-Ok-Some-clause-reading c =
    let cutting = c.in_ok-cutting-in-Ok-Some.cutting in
    reads_behind c.args.max c.args.left cutting.used c.args.bytes.now c.split_at.result.1.now c.in-Ok-Some.head _ _ _ _
    (rw c.in-Ok-Some.field-0-is at c.in-Ok-Some.ensures.value) c.split_at.ensures.back c.in_ok-cutting-in-Ok-Some.ensures.cuts
