use Rattle.vp_bool.proofs.WritingLemmas.{Writes-then, Continues-none}
use Rattle.vp_head.specs.Rows.{four_signed}
use Rattle.vp_head.specs.Header.{segment_values}
use Rattle.vp_head.proofs.row_writing.write_segment_values.Goals as goal

pub returns : goal.returns
unfolding segment_values four_signed
returns c =
    Writes-then _ c.in_ok-write.ensures.reads
    (Writes-then _ c.in_ok-write_four_signed.ensures (Writes-then _ c.in_ok-write_four_signed-2.ensures (Continues-none _ _)))
