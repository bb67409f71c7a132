use Rattle.std.proofs.Common.{ℕ, ◌<◌, ◌≤◌, get_or, sym, subst, unsigned_abs, w8}
use Rattle.vp_lanes.proofs.Shape.{lane_fits}
use Rattle.vp_lanes.proofs.Signed.{widened, signed_sub, signed_out}
use Rattle.vp_transform.proofs.Shorts.{bytes_apart, bytes_apart_short}
use mir.Val.{Fits}
use Rattle.vp_transform.proofs.forward_short.lanes_apart.Goals as goal

pub returns : goal.returns
returns c =
    let a : (j : ℕ) → j < 16 → get_or c.args.a j 0 < 256 = λ j h. (lane_fits (Fits w8) 0 16 c.args.a c.fits-a.0 c.fits-a.1 j h).fits in
    let b : (j : ℕ) → j < 16 → get_or c.args.b j 0 < 256 = λ j h. (lane_fits (Fits w8) 0 16 c.args.b c.fits-b.0 c.fits-b.1 j h).fits in
    let all = signed_sub (widened 16 c.args.a c.fits-a.0 c.fits-a.1) (widened 16 c.args.b c.fits-b.0 c.fits-b.1)
    (λ j h. bytes_apart_short (get_or c.args.a j 0) (get_or c.args.b j 0) (a j h) (b j h)) in
    record {
      value = signed_out all;
      within = λ j h. subst (λ z. unsigned_abs z ≤ 255) (sym (signed_out all j h)) (bytes_apart (get_or c.args.a j 0) (get_or c.args.b j 0) (a j h) (b j h));
    }
