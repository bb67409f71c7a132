use Rattle.std.proofs.Common.{◌∙◌, negsuc, arith}
use Rattle.std.proofs.lemmas.Int.{ints}
use Rattle.vp_lanes.proofs.Signed.{signed_param, signed_splat, stands_of, signed_add, signed_out}
use Rattle.vp_inter.proofs.six_tap.sum_of_three.Goals as goal

pub returns : goal.returns
returns c j h =
    let s = signed_add (signed_param 8 c.args.a _ c.well_formed.0) (signed_splat 8 49216 (negsuc 16319) (stands_of (negsuc 16319) (record { sfits = omega arith })))
    (λ i k. let p = c.requires.first i k in (omega (arith, ints), omega (arith, ints))) in
    let t = signed_add s (signed_param 8 c.args.b _ c.well_formed.1.0) (λ i k. let p = c.requires.both i k in (omega (arith, ints), omega (arith, ints))) in
    let u = signed_add t (signed_param 8 c.args.c _ c.well_formed.1.1.0) (λ i k. let p = c.requires.all i k in (omega (arith, ints), omega (arith, ints))) in
    signed_out u j h ∙ omega (arith, ints)
