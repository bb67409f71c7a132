use Rattle.std.proofs.Common.{refl, arith}
use Rattle.vp_transform.proofs.Vectors.{from_first, from_second}
use Rattle.vp_transform.proofs.Words.{four}
use Rattle.vp_lanes.proofs.Signed32.{signed_param}
use Rattle.vp_transform.proofs.lanes.transpose.Goals as goal

pub returns-clause-first : goal.returns-clause-first
returns-clause-first c =
    let a = signed_param 4 c.args.a _ c.well_formed.0 in
    let b = signed_param 4 c.args.b _ c.well_formed.1.0 in
    let e = signed_param 4 c.args.c _ c.well_formed.1.1.0 in
    let d = signed_param 4 c.args.d _ c.well_formed.1.1.1.0 in
    four (from_first a e 0 (omega arith)) (from_first b d 0 (omega arith)) (from_second a e 4 0 refl (omega arith)) (from_second b d 4 0 refl (omega arith))

pub returns-clause-second : goal.returns-clause-second
returns-clause-second c =
    let a = signed_param 4 c.args.a _ c.well_formed.0 in
    let b = signed_param 4 c.args.b _ c.well_formed.1.0 in
    let e = signed_param 4 c.args.c _ c.well_formed.1.1.0 in
    let d = signed_param 4 c.args.d _ c.well_formed.1.1.1.0 in
    four (from_first a e 1 (omega arith)) (from_first b d 1 (omega arith)) (from_second a e 5 1 refl (omega arith)) (from_second b d 5 1 refl (omega arith))

pub returns-clause-third : goal.returns-clause-third
returns-clause-third c =
    let a = signed_param 4 c.args.a _ c.well_formed.0 in
    let b = signed_param 4 c.args.b _ c.well_formed.1.0 in
    let e = signed_param 4 c.args.c _ c.well_formed.1.1.0 in
    let d = signed_param 4 c.args.d _ c.well_formed.1.1.1.0 in
    four (from_first a e 2 (omega arith)) (from_first b d 2 (omega arith)) (from_second a e 6 2 refl (omega arith)) (from_second b d 6 2 refl (omega arith))

pub returns-clause-fourth : goal.returns-clause-fourth
returns-clause-fourth c =
    let a = signed_param 4 c.args.a _ c.well_formed.0 in
    let b = signed_param 4 c.args.b _ c.well_formed.1.0 in
    let e = signed_param 4 c.args.c _ c.well_formed.1.1.0 in
    let d = signed_param 4 c.args.d _ c.well_formed.1.1.1.0 in
    four (from_first a e 3 (omega arith)) (from_first b d 3 (omega arith)) (from_second a e 7 3 refl (omega arith)) (from_second b d 7 3 refl (omega arith))
