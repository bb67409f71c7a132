use Rattle.std.proofs.Common.{◌≡◌}
use Rattle.vp_decode.specs.MacroblockMaps.{place}
use Rattle.vp_encode.specs.FrameChoices.{AreChosenBefore}
use Rattle.vp_encode.proofs.frame_choices.FrameChoices.row.Given as goal

abbrev pub invariant-loop-column : goal.invariant-loop-column
invariant-loop-column l = record {
  kept : l.chooser ≡ l.initial.chooser;
  before : AreChosenBefore l.initial.chooser (place l.row l.column) l.self;
}
