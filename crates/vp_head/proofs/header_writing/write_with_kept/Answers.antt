use Rattle.vp_bool.proofs.WritingLemmas.{Writes-then, Continues-none}
use Rattle.vp_head.specs.Header.{frame_and_kept}
use Rattle.vp_head.proofs.header_writing.write_with_kept.Goals as goal

pub returns : goal.returns
unfolding frame_and_kept
returns c = Writes-then _ c.in_ok-write_frame.ensures (Continues-none _ _)
