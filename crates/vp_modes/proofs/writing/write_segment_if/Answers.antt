use Rattle.std.proofs.Common.{sym}
use Rattle.vp_bool.proofs.WritingLemmas.{Continues-given}
use Rattle.vp_modes.proofs.writing.write_segment_if.Goals as goal

pub returns-in_ok-write_tree : goal.returns-in_ok-write_tree
returns-in_ok-write_tree c otherwise h = rw c.if-asked.true (c.in_ok-write_tree.ensures 0)

pub returns-else-asked : goal.returns-else-asked
returns-else-asked c otherwise h = rw c.if-asked.false (Continues-given (sym (h c.if-asked.false)) _)
