use Rattle.std.proofs.Common.{sym}
use Rattle.vp_bool.proofs.WritingLemmas.{Continues-given}
use Rattle.vp_head.proofs.row_writing.write_segment_values_if.Goals as goal

pub write_segment_values-requires : goal.write_segment_values-requires
write_segment_values-requires c = c.requires c.if-asked.true

pub returns-in_ok-write_segment_values : goal.returns-in_ok-write_segment_values
returns-in_ok-write_segment_values c kept h = rw c.if-asked.true c.in_ok-write_segment_values.ensures

pub returns-else-asked : goal.returns-else-asked
returns-else-asked c kept h = rw c.if-asked.false (Continues-given (sym (h c.if-asked.false)) _)
