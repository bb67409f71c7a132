use Rattle.std.proofs.Common.{◌∙◌, ℕ, ◌<◌, negsuc, arith, get_or, Fits, w8}
use Rattle.std.proofs.lemmas.Int.{ints}
use Rattle.vp_lanes.proofs.Shape.{lane_fits}
use Rattle.vp_lanes.proofs.Signed.{widened, signed_splat, stands_of, signed_mul, signed_add, signed_out}
use Rattle.vp_inter.proofs.NarrowLemmas.{raised_in}
use Rattle.vp_inter.proofs.filter.middle_pair_sum.Goals as goal

pub returns : goal.returns
returns g c j h =
    let n : ℕ = g.row.N in
    let pa = λ (i : ℕ) (k : i < n). raised_in (get_or c.args.a i 0) c.args.weight_a (lane_fits (Fits w8) 0 n c.args.a c.fits-a.0 c.fits-a.1 i k).fits c.requires.first.0 in
    let pb = λ (i : ℕ) (k : i < n). raised_in (get_or c.args.b i 0) c.args.weight_b (lane_fits (Fits w8) 0 n c.args.b c.fits-b.0 c.fits-b.1 i k).fits c.requires.second.0 in
    let x = signed_mul (widened n c.args.a c.fits-a.0 c.fits-a.1) (signed_splat n _ c.args.weight_a (stands_of c.args.weight_a c.ranges.weight_a))
    (λ i k. let p = pa i k in (omega (arith, ints), omega (arith, ints))) in
    let y = signed_mul (widened n c.args.b c.fits-b.0 c.fits-b.1) (signed_splat n _ c.args.weight_b (stands_of c.args.weight_b c.ranges.weight_b))
    (λ i k. let p = pb i k in (omega (arith, ints), omega (arith, ints))) in
    let s = signed_add x (signed_splat n 49216 (negsuc 16319) (stands_of (negsuc 16319) (record { sfits = omega arith })))
    (λ i k. let p = pa i k in (omega (arith, ints), omega (arith, ints))) in
    let t = signed_add s y (λ i k. let p = pa i k in let q = pb i k in (omega (arith, ints), omega (arith, ints))) in
    signed_out t j h ∙ omega (arith, ints)
