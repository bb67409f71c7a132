use Rattle.std.proofs.Common.{refl, arith}
use Rattle.vp_recon.proofs.Words.{signed_param, in_first, in_second, eight}
use Rattle.vp_recon.proofs.residue.side_by_side.Goals as goal

pub returns : goal.returns
returns c =
    let a = signed_param 16 c.args.left _ c.well_formed.0 in
    let b = signed_param 16 c.args.right _ c.well_formed.1.0 in
    record {
      top = eight (in_first a b 0 (omega arith)).is (in_first a b 1 (omega arith)).is (in_first a b 2 (omega arith)).is (in_first a b 3 (omega arith)).is
          (in_second a b 16 0 refl (omega arith)).is (in_second a b 17 1 refl (omega arith)).is (in_second a b 18 2 refl (omega arith)).is (in_second a b 19 3 refl (omega arith)).is;
      upper = eight (in_first a b 4 (omega arith)).is (in_first a b 5 (omega arith)).is (in_first a b 6 (omega arith)).is (in_first a b 7 (omega arith)).is
          (in_second a b 20 4 refl (omega arith)).is (in_second a b 21 5 refl (omega arith)).is (in_second a b 22 6 refl (omega arith)).is (in_second a b 23 7 refl (omega arith)).is;
      lower = eight (in_first a b 8 (omega arith)).is (in_first a b 9 (omega arith)).is (in_first a b 10 (omega arith)).is (in_first a b 11 (omega arith)).is
          (in_second a b 24 8 refl (omega arith)).is (in_second a b 25 9 refl (omega arith)).is (in_second a b 26 10 refl (omega arith)).is (in_second a b 27 11 refl (omega arith)).is;
      bottom = eight (in_first a b 12 (omega arith)).is (in_first a b 13 (omega arith)).is (in_first a b 14 (omega arith)).is (in_first a b 15 (omega arith)).is
          (in_second a b 28 12 refl (omega arith)).is (in_second a b 29 13 refl (omega arith)).is (in_second a b 30 14 refl (omega arith)).is (in_second a b 31 15 refl (omega arith)).is;
    }
