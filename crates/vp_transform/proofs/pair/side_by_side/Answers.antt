use Rattle.std.proofs.Common.{refl, arith}
use Rattle.vp_lanes.proofs.Signed.{signed_param}
use Rattle.vp_transform.proofs.Eights.{in_first, in_second, thrice, eight}
use Rattle.vp_transform.proofs.pair.side_by_side.Goals as goal

pub returns-clause-top : goal.returns-clause-top
returns-clause-top c =
    let a = signed_param 8 c.args.a _ c.well_formed.0 in
    let b = signed_param 8 c.args.b _ c.well_formed.1.0 in
    let e = signed_param 8 c.args.c _ c.well_formed.1.1.0 in
    let d = signed_param 8 c.args.d _ c.well_formed.1.1.1.0 in
    eight (thrice (in_first a e 0 (omega arith))) (thrice (in_first b d 0 (omega arith))) (thrice (in_second a e 8 0 refl (omega arith))) (thrice (in_second b d 8 0 refl (omega arith)))
    (thrice (in_first a e 1 (omega arith))) (thrice (in_first b d 1 (omega arith))) (thrice (in_second a e 9 1 refl (omega arith))) (thrice (in_second b d 9 1 refl (omega arith)))

pub returns-clause-upper : goal.returns-clause-upper
returns-clause-upper c =
    let a = signed_param 8 c.args.a _ c.well_formed.0 in
    let b = signed_param 8 c.args.b _ c.well_formed.1.0 in
    let e = signed_param 8 c.args.c _ c.well_formed.1.1.0 in
    let d = signed_param 8 c.args.d _ c.well_formed.1.1.1.0 in
    eight (thrice (in_first a e 2 (omega arith))) (thrice (in_first b d 2 (omega arith))) (thrice (in_second a e 10 2 refl (omega arith))) (thrice (in_second b d 10 2 refl (omega arith)))
    (thrice (in_first a e 3 (omega arith))) (thrice (in_first b d 3 (omega arith))) (thrice (in_second a e 11 3 refl (omega arith))) (thrice (in_second b d 11 3 refl (omega arith)))

pub returns-clause-lower : goal.returns-clause-lower
returns-clause-lower c =
    let a = signed_param 8 c.args.a _ c.well_formed.0 in
    let b = signed_param 8 c.args.b _ c.well_formed.1.0 in
    let e = signed_param 8 c.args.c _ c.well_formed.1.1.0 in
    let d = signed_param 8 c.args.d _ c.well_formed.1.1.1.0 in
    eight (thrice (in_first a e 4 (omega arith))) (thrice (in_first b d 4 (omega arith))) (thrice (in_second a e 12 4 refl (omega arith))) (thrice (in_second b d 12 4 refl (omega arith)))
    (thrice (in_first a e 5 (omega arith))) (thrice (in_first b d 5 (omega arith))) (thrice (in_second a e 13 5 refl (omega arith))) (thrice (in_second b d 13 5 refl (omega arith)))

pub returns-clause-bottom : goal.returns-clause-bottom
returns-clause-bottom c =
    let a = signed_param 8 c.args.a _ c.well_formed.0 in
    let b = signed_param 8 c.args.b _ c.well_formed.1.0 in
    let e = signed_param 8 c.args.c _ c.well_formed.1.1.0 in
    let d = signed_param 8 c.args.d _ c.well_formed.1.1.1.0 in
    eight (thrice (in_first a e 6 (omega arith))) (thrice (in_first b d 6 (omega arith))) (thrice (in_second a e 14 6 refl (omega arith))) (thrice (in_second b d 14 6 refl (omega arith)))
    (thrice (in_first a e 7 (omega arith))) (thrice (in_first b d 7 (omega arith))) (thrice (in_second a e 15 7 refl (omega arith))) (thrice (in_second b d 15 7 refl (omega arith)))
