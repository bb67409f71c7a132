use Rattle.std.proofs.Common.{refl, arith}
use Rattle.vp_lanes.proofs.Signed.{signed_param}
use Rattle.vp_transform.proofs.Eights.{in_first, in_second}
use Rattle.vp_transform.proofs.Vectors.{sixteen}
use Rattle.vp_transform.proofs.pair.transpose.Goals as goal

pub returns-clause-even : goal.returns-clause-even
returns-clause-even c =
    let a = signed_param 8 c.args.a _ c.well_formed.0 in
    let b = signed_param 8 c.args.b _ c.well_formed.1.0 in
    let e = signed_param 8 c.args.c _ c.well_formed.1.1.0 in
    let d = signed_param 8 c.args.d _ c.well_formed.1.1.1.0 in
    sixteen
    (in_first a b 0 (omega arith)).is (in_second a b 8 0 refl (omega arith)).is (in_first e d 0 (omega arith)).is (in_second e d 8 0 refl (omega arith)).is
    (in_first a b 2 (omega arith)).is (in_second a b 10 2 refl (omega arith)).is (in_first e d 2 (omega arith)).is (in_second e d 10 2 refl (omega arith)).is
    (in_first a b 4 (omega arith)).is (in_second a b 12 4 refl (omega arith)).is (in_first e d 4 (omega arith)).is (in_second e d 12 4 refl (omega arith)).is
    (in_first a b 6 (omega arith)).is (in_second a b 14 6 refl (omega arith)).is (in_first e d 6 (omega arith)).is (in_second e d 14 6 refl (omega arith)).is

pub returns-clause-odd : goal.returns-clause-odd
returns-clause-odd c =
    let a = signed_param 8 c.args.a _ c.well_formed.0 in
    let b = signed_param 8 c.args.b _ c.well_formed.1.0 in
    let e = signed_param 8 c.args.c _ c.well_formed.1.1.0 in
    let d = signed_param 8 c.args.d _ c.well_formed.1.1.1.0 in
    sixteen
    (in_first a b 1 (omega arith)).is (in_second a b 9 1 refl (omega arith)).is (in_first e d 1 (omega arith)).is (in_second e d 9 1 refl (omega arith)).is
    (in_first a b 3 (omega arith)).is (in_second a b 11 3 refl (omega arith)).is (in_first e d 3 (omega arith)).is (in_second e d 11 3 refl (omega arith)).is
    (in_first a b 5 (omega arith)).is (in_second a b 13 5 refl (omega arith)).is (in_first e d 5 (omega arith)).is (in_second e d 13 5 refl (omega arith)).is
    (in_first a b 7 (omega arith)).is (in_second a b 15 7 refl (omega arith)).is (in_first e d 7 (omega arith)).is (in_second e d 15 7 refl (omega arith)).is
