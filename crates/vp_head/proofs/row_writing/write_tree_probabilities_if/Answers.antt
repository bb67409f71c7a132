use Rattle.std.proofs.Common.{sym}
use Rattle.vp_bool.proofs.WritingLemmas.{Continues-then, Continues-given}
use Rattle.vp_head.specs.Rows.{renewed}
use Rattle.vp_head.specs.Header.{tree_probabilities}
use Rattle.vp_head.proofs.Mixed.{three_are, three_written}
use Rattle.vp_head.proofs.row_writing.write_tree_probabilities_if.Goals as goal

pub returns-then-not-asked : goal.returns-then-not-asked
returns-then-not-asked c = rw c.if-not-asked.true (Continues-given (sym (c.requires c.if-not-asked.true)) _)

pub returns : goal.returns
unfolding tree_probabilities
returns c =
    rw c.if-not-asked.false
    (Continues-then (three_written (λ i. renewed 128 255) c.in_ok-write_renewed.ensures c.in_ok-write_renewed-2.ensures c.in_ok-write_renewed-3.ensures)
    (Continues-given (three_are c.args.probabilities.now c.told-probabilities) _))
