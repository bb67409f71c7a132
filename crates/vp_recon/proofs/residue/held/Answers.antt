use Rattle.std.proofs.Common.{◌∙◌, ◌≤◌, ℤ, pos, negsuc, get_or, unsigned_abs, w16, sym, ap, subst, arith}
use Rattle.vp_recon.proofs.Words.{signed_lanes, lane_fits, handed16, passed16, summed, int_min, int_max}
use mir.Val.{SFits}
use Rattle.vp_recon.proofs.SumLemmas.{lane_kept, clamped_sum, clamped_low}
use Rattle.vp_recon.proofs.residue.held.Goals as goal

pub returns-clause-value : goal.returns-clause-value
returns-clause-value c residue is i below pixel byte =
    let lanes = signed_lanes w16 16 c.args.numbers _ c.well_formed.0 in
    let fits : SFits w16 (get_or c.args.numbers i (pos 0)) = lane_fits (SFits w16) (pos 0) 16 c.args.numbers lanes.0 lanes.1 i below in
    let y : ℤ = get_or c.clamp_i16.result i (pos 0) in
    ap (summed pixel) (passed16 c.clamp_i16.result i 8800 (omega arith) (clamped_low y (get_or (handed16 c.args.numbers) i (pos 0)) (c.clamp_i16.ensures i below)))
    ∙ clamped_sum pixel y (get_or c.args.numbers i (pos 0)) byte
    (c.clamp_i16.ensures i below ∙ ap (λ (z : ℤ). int_min (pos 255) (int_max (negsuc 254) z)) (lane_kept c.args.numbers i fits))
    ∙ is i below pixel byte

pub returns-clause-low : goal.returns-clause-low
returns-clause-low c i below =
    let low : unsigned_abs (get_or c.clamp_i16.result i (pos 0)) ≤ 8800 = clamped_low (get_or c.clamp_i16.result i (pos 0)) (get_or (handed16 c.args.numbers) i (pos 0)) (c.clamp_i16.ensures i below) in
    subst (λ (z : ℤ). unsigned_abs z ≤ 8800) (sym (passed16 c.clamp_i16.result i 8800 (omega arith) low)) low
