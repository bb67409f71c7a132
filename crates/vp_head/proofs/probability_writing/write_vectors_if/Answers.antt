use Rattle.std.proofs.Common.{sym}
use Rattle.vp_bool.proofs.WritingLemmas.{Continues-given}
use Rattle.vp_head.proofs.probability_writing.write_vectors_if.Goals as goal

pub write_vectors-requires : goal.write_vectors-requires
write_vectors-requires c = c.requires.spelled c.if-asked.true

pub returns-in_ok-write_vectors : goal.returns-in_ok-write_vectors
returns-in_ok-write_vectors c = rw c.if-asked.true c.in_ok-write_vectors.ensures

pub returns-else-asked : goal.returns-else-asked
returns-else-asked c = rw c.if-asked.false (Continues-given (sym (c.requires.kept c.if-asked.false)) _)
