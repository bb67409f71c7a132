use Rattle.std.proofs.Common.{arith}
use Rattle.std.proofs.lemmas.Int.{ints}
use Rattle.vp_lanes.proofs.Signed32.{signed_param, signed_add, signed_out}
use Rattle.vp_inter.proofs.six_tap.added.Goals as goal

pub returns : goal.returns
returns c j h =
    signed_out (signed_add (signed_param 8 c.args.a _ c.well_formed.0) (signed_param 8 c.args.b _ c.well_formed.1.0)
    (λ i k. let p = c.requires.first i k in let q = c.requires.second i k in (omega (arith, ints), omega (arith, ints)))) j h
