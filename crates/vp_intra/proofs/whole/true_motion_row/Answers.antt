use Rattle.std.proofs.Common.{◌∙◌, ℕ, ◌+◌, ◌-◌, ◌<◌, min, get_or, ap, Fits, w8, arith}
use Rattle.vp_lanes.proofs.Shape.{lanes_of, lane_fits, mapped, zipped, selected, splatted, lane_is}
use mir.Syntax.{lt, mask, unsigned, wrap_add, wrap_sub, bit_not}
use lib.Lanes.{top}
use borrow.Rule.Simd.Lanes.{act1, act2}
use borrow.Table.Row.{s_int}
use Rattle.vp_lanes.proofs.Bytes.{above_is, sum_is}
use Rattle.vp_intra.proofs.BlockLemmas.{moved_either_way}
use Rattle.vp_intra.proofs.whole.true_motion_row.Goals as goal

pub returns : goal.returns
returns g c j h =
    let n : ℕ = g.row.N in
    let a : ℕ = get_or c.args.above j 0 in
    let up : ℕ = c.saturating_sub-up.result in
    let down : ℕ = c.saturating_sub-down.result in
    let byte : a < 256 = (lane_fits (Fits w8) 0 n c.args.above c.fits-above.0 c.fits-above.1 j h).fits in
    let x = lanes_of 0 n c.args.above c.fits-above.0 in
    let u = splatted n up in
    let d = splatted n down in
    let i = mapped (act1 bit_not (s_int w8) (s_int w8)) x in
    let t = mapped (top 7) (zipped (act2 (mask (lt unsigned)) (s_int w8) (s_int w8) (s_int w8)) u i) in
    let s = zipped (act2 wrap_add (s_int w8) (s_int w8) (s_int w8)) x (selected t u i) in
    let v = mapped (top 7) (zipped (act2 (mask (lt unsigned)) (s_int w8) (s_int w8) (s_int w8)) s d) in
    let both = sum_is a up byte c.saturating_sub-up.type_inv in
    lane_is 0 (zipped (act2 wrap_sub (s_int w8) (s_int w8) (s_int w8)) (selected v d s) d) j h
    ∙ above_is _ _ (omega (arith, both)) c.saturating_sub-down.type_inv
    ∙ ap (λ (m : ℕ). m - down) both
    ∙ ap (λ (m : ℕ). min (a + m) 255 - down) c.saturating_sub-up.ensures
    ∙ ap (λ (m : ℕ). min (a + (c.args.left - c.args.corner)) 255 - m) c.saturating_sub-down.ensures
    ∙ moved_either_way c.args.left a c.args.corner byte
