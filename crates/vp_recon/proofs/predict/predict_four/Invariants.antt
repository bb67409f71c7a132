use Rattle.std.proofs.Common.{◌≡◌}
use Rattle.vp_recon.proofs.Words.{plane_of, with_plane, with_block, moved_pixel, vector_at}
use Rattle.vp_recon.proofs.Parts.{was, sub_at, until}
use Rattle.vp_recon.proofs.predict.predict_four.Given as goal

abbrev pub invariant-loop-k : goal.invariant-loop-k
invariant-loop-k l = record {
  pixels : l.picture ≡ with_plane l.fn.picture l.plane (with_block (plane_of l.fn.picture l.plane) l.x l.y 8 8
      (until (sub_at 2) l.k (moved_pixel l.version l.reference l.x l.y 2 (vector_at l.vectors)) (was (plane_of l.fn.picture l.plane) l.x l.y)));
  wide : (plane_of l.picture l.plane).width ≡ (plane_of l.fn.picture l.plane).width;
  high : (plane_of l.picture l.plane).height ≡ (plane_of l.fn.picture l.plane).height;
}
