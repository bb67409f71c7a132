use Rattle.std.proofs.Common.{sym}
use Rattle.vp_bool.proofs.WritingLemmas.{Continues-given}
use Rattle.vp_head.proofs.row_writing.write_flag_if.Goals as goal

pub returns-in_ok-write : goal.returns-in_ok-write
returns-in_ok-write c otherwise h = rw c.if-asked.true c.in_ok-write.ensures.reads

pub returns-else-asked : goal.returns-else-asked
returns-else-asked c otherwise h = rw c.if-asked.false (Continues-given (sym (h c.if-asked.false)) _)
