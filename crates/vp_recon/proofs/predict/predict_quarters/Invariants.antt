use Rattle.std.proofs.Common.{◌≡◌}
use Rattle.vp_recon.proofs.Words.{with_plane, with_block, moved_pixel, luma_moved}
use Rattle.vp_recon.proofs.Parts.{was, quarter_at, until}
use Rattle.vp_recon.proofs.predict.predict_quarters.Given as goal

abbrev pub invariant-loop-quarter : goal.invariant-loop-quarter
invariant-loop-quarter l =
    l.picture ≡ with_plane l.fn.picture 0 (with_block l.fn.picture.luma l.x l.y 16 16
    (until quarter_at l.quarter (moved_pixel l.version l.reference l.x l.y 4 (luma_moved l.motion)) (was l.fn.picture.luma l.x l.y)))
