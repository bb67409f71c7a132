use Rattle.std.proofs.Common.{refl, arith}
use Rattle.vp_lanes.proofs.Signed.{signed_param}
use Rattle.vp_transform.proofs.Eights.{in_first, in_second, thrice}
use Rattle.vp_transform.proofs.Vectors.{sixteen}
use Rattle.vp_transform.proofs.forward_short.transpose.Goals as goal

pub returns : goal.returns
returns g =
    let a = signed_param 4 g.args.a _ g.well_formed.0 in
    let b = signed_param 4 g.args.b _ g.well_formed.1.0 in
    let c = signed_param 4 g.args.c _ g.well_formed.1.1.0 in
    let d = signed_param 4 g.args.d _ g.well_formed.1.1.1.0 in
    sixteen
    (thrice (in_first a c 0 (omega arith))) (thrice (in_first b d 0 (omega arith))) (thrice (in_second a c 4 0 refl (omega arith))) (thrice (in_second b d 4 0 refl (omega arith)))
    (thrice (in_first a c 1 (omega arith))) (thrice (in_first b d 1 (omega arith))) (thrice (in_second a c 5 1 refl (omega arith))) (thrice (in_second b d 5 1 refl (omega arith)))
    (thrice (in_first a c 2 (omega arith))) (thrice (in_first b d 2 (omega arith))) (thrice (in_second a c 6 2 refl (omega arith))) (thrice (in_second b d 6 2 refl (omega arith)))
    (thrice (in_first a c 3 (omega arith))) (thrice (in_first b d 3 (omega arith))) (thrice (in_second a c 7 3 refl (omega arith))) (thrice (in_second b d 7 3 refl (omega arith)))
