use Rattle.std.proofs.Common.{◌≡◌}
use Rattle.vp_decode.specs.MacroblockMaps.{place}
use Rattle.vp_choose.specs.Frame.{lent_frame}
use Rattle.vp_encode.specs.FrameChoices.{AreChosenBefore}
use Rattle.vp_encode.proofs.frame_choices.choose_macroblocks.Given as goal

abbrev pub invariant-loop-row : goal.invariant-loop-row
invariant-loop-row l = record {
  kept : l.chooser ≡ lent_frame l.frame;
  before : AreChosenBefore (lent_frame l.frame) (place l.row 0) l.choosing;
}
