use Rattle.std.proofs.Common.{ℤ, negsuc, ◌≤ℤ◌, subst, sym, pos, get_or, arith, Fits, w8}
use Rattle.std.proofs.lemmas.Int.{ints}
use mir.Val.{SFits}
use Rattle.vp_lanes.specs.Lane.{lane}
use Rattle.vp_lanes.proofs.Shape.{lane_fits, signed_lanes}
use Rattle.vp_lanes.proofs.Signed32.{widened, signed_mul, signed_out}
use Rattle.vp_inter.proofs.LongLanes.{widened_signed, product_in}
use Rattle.vp_inter.proofs.six_tap.products.Goals as goal

pub returns-clause-value : goal.returns-clause-value
returns-clause-value c j h =
    let k = signed_lanes w8 8 c.args.w _ c.well_formed.1.0 in
    signed_out (signed_mul (widened 8 c.args.a c.fits-a.0 c.fits-a.1) (widened_signed 8 c.args.w _ c.well_formed.1.0)
    (λ i m. let p = product_in (get_or c.args.a i 0) (lane c.args.w i) (lane_fits (Fits w8) 0 8 c.args.a c.fits-a.0 c.fits-a.1 i m).fits (lane_fits (SFits w8) (pos 0) 8 c.args.w k.0 k.1 i m) in (omega (arith, ints), omega (arith, ints)))) j h

pub returns-clause-range : goal.returns-clause-range
returns-clause-range c j h =
    let k = signed_lanes w8 8 c.args.w _ c.well_formed.1.0 in
    subst (λ (z : ℤ). (negsuc 32639 ≤ℤ z) × (z ≤ℤ pos 32640)) (sym (returns-clause-value c j h))
    (product_in (get_or c.args.a j 0) (lane c.args.w j) (lane_fits (Fits w8) 0 8 c.args.a c.fits-a.0 c.fits-a.1 j h).fits (lane_fits (SFits w8) (pos 0) 8 c.args.w k.0 k.1 j h))
