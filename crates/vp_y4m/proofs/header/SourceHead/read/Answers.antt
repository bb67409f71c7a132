use Rattle.std.proofs.Common.{Ok, take}
use Rattle.vp_y4m.specs.Shown.{head_model}
use Rattle.vp_y4m.proofs.FrameLemmas.{head_judged, judged_fault, head_fault, no_head}
use Rattle.vp_y4m.proofs.header.SourceHead.read.Goals as goal

pub returns-in-Ok-clause-ok : goal.returns-in-Ok-clause-ok
returns-in-Ok-clause-ok g c =
    let read = rw c.in-Ok-Some.field-0-is at c.in-Ok-Some.ensures.line in
    head_judged c.args.limits.pixels (take c.in-Ok-Some.n c.read_line.new.line) (Ok (head_model c.in-Ok.head)) _ _ read.1 c.in-Ok.ensures.value

pub returns-in-Err-read_head_line-clause-err : goal.returns-in-Err-read_head_line-clause-err
returns-in-Err-read_head_line-clause-err g c =
    let read = rw c.in-Ok-Some.field-0-is at c.in-Ok-Some.ensures.line in
    judged_fault c.args.limits.pixels (take c.in-Ok-Some.n c.read_line.new.line) c.in-Err-read_head_line.fault _ _ read.1 c.in-Err-read_head_line.ensures.value c.in-Err-read_head_line.ensures.faults

pub returns-in-Ok-None-clause-err : goal.returns-in-Ok-None-clause-err
returns-in-Ok-None-clause-err g c = no_head c.args.limits.pixels _ _ (rw c.in-Ok-None.field-0-is at c.in-Ok-None.ensures.line)

pub returns-in-Err-clause-err : goal.returns-in-Err-clause-err
returns-in-Err-clause-err g c = head_fault c.args.limits.pixels c.in-Err.fault _ _ c.in-Err.ensures.line
