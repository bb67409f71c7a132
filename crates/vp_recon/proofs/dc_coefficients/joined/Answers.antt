use Rattle.std.proofs.Common.{refl, arith}
use Rattle.vp_recon.proofs.Words.{signed_param, in_first, in_second, below_eight}
use Rattle.vp_recon.proofs.dc_coefficients.joined.Goals as goal

pub returns-clause-upper : goal.returns-clause-upper
returns-clause-upper c =
    let a = signed_param 8 c.args.upper _ c.well_formed.0 in
    let b = signed_param 8 c.args.lower _ c.well_formed.1.0 in
    below_eight _ (in_first a b 0 (omega arith)).is (in_first a b 1 (omega arith)).is (in_first a b 2 (omega arith)).is (in_first a b 3 (omega arith)).is
    (in_first a b 4 (omega arith)).is (in_first a b 5 (omega arith)).is (in_first a b 6 (omega arith)).is (in_first a b 7 (omega arith)).is

pub returns-clause-lower : goal.returns-clause-lower
returns-clause-lower c =
    let a = signed_param 8 c.args.upper _ c.well_formed.0 in
    let b = signed_param 8 c.args.lower _ c.well_formed.1.0 in
    below_eight _ (in_second a b 8 0 refl (omega arith)).is (in_second a b 9 1 refl (omega arith)).is (in_second a b 10 2 refl (omega arith)).is (in_second a b 11 3 refl (omega arith)).is
    (in_second a b 12 4 refl (omega arith)).is (in_second a b 13 5 refl (omega arith)).is (in_second a b 14 6 refl (omega arith)).is (in_second a b 15 7 refl (omega arith)).is
