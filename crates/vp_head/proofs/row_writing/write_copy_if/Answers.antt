use Rattle.std.proofs.Common.{sym}
use Rattle.vp_bool.proofs.WritingLemmas.{Writes-then, Continues-given}
use Rattle.vp_head.specs.Header.{copy}
use Rattle.vp_head.proofs.row_writing.write_copy_if.Goals as goal

pub returns-then-not-asked : goal.returns-then-not-asked
returns-then-not-asked c = rw c.if-not-asked.true (Continues-given (sym (c.requires c.if-not-asked.true)) _)

pub returns : goal.returns
unfolding copy
returns c = rw c.if-not-asked.false (Writes-then _ c.in_ok-literal.ensures.reads (Continues-given c.copy_number.ensures.same _))
