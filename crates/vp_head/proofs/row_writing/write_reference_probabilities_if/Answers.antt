use Rattle.std.proofs.Common.{sym}
use Rattle.vp_bool.proofs.WritingLemmas.{Writes-then, Continues-none, Continues-given}
use Rattle.vp_head.specs.Header.{reference_probabilities}
use Rattle.vp_head.proofs.row_writing.write_reference_probabilities_if.Goals as goal

pub returns-then-not-asked : goal.returns-then-not-asked
returns-then-not-asked c = rw c.if-not-asked.true (Continues-given (sym (c.requires c.if-not-asked.true)) _)

pub returns : goal.returns
unfolding reference_probabilities
returns c =
    rw c.if-not-asked.false
    (Writes-then _ c.in_ok-literal.ensures.reads
    (Writes-then _ c.in_ok-literal-2.ensures.reads (Writes-then _ c.in_ok-literal-3.ensures.reads (Continues-none _ _))))
