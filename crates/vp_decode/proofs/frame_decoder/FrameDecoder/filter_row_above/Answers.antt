use Rattle.vp_decode.proofs.ReadingLemmas.{one_frame}
use Rattle.vp_decode.proofs.RowsLemmas.{filtered_same}
use Rattle.vp_decode.proofs.frame_decoder.FrameDecoder.filter_row_above.Goals as goal

pub returns-then-row-gt0-clause-same : goal.returns-then-row-gt0-clause-same
returns-then-row-gt0-clause-same g c = rw (← c.self.view_is) (filtered_same _ _ _ _ _ _ _ c.row.ensures)

pub invariant_of-self : goal.invariant_of-self
invariant_of-self g c = one_frame _ _ (filtered_same _ _ c.self.inside.picture c.row.new.picture c.self.inside.info.now c.self.inside.contexts c.self.inside.levels c.row.ensures) c.self.invariant
