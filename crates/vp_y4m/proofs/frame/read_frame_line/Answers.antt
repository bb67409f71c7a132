use Rattle.std.proofs.Common.{take, rules}
use Rattle.vp_y4m.proofs.FrameLemmas.{other_line, end_before_line, line_fault}
use Rattle.vp_y4m.proofs.frame.read_frame_line.Goals as goal

pub returns-then-not-is_first_token-clause-found :
    goal.returns-then-not-is_first_token-clause-found
returns-then-not-is_first_token-clause-found g c =
    let read = rw c.in-Ok-Some.field-0-is at c.in-Ok-Some.ensures.line in
    other_line (take c.in-Ok-Some.n c.read_line.new.line) _ _ read.1 (search rules)

pub returns-in-Ok-None-clause-found : goal.returns-in-Ok-None-clause-found
returns-in-Ok-None-clause-found g c = end_before_line _ _ (rw c.in-Ok-None.field-0-is at c.in-Ok-None.ensures.line)

pub returns-in-Err-clause-found : goal.returns-in-Err-clause-found
returns-in-Err-clause-found g c = line_fault c.in-Err.fault _ _ c.in-Err.ensures.line
