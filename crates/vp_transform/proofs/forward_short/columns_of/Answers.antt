use Rattle.std.proofs.Common.{arith}
use Rattle.vp_transform.proofs.Eights.{in_first}
use Rattle.vp_transform.proofs.Shorts.{signed_block}
use Rattle.vp_transform.proofs.Vectors.{sixteen}
use Rattle.vp_transform.proofs.forward_short.columns_of.Goals as goal

pub returns : goal.returns
returns c =
    let x = signed_block c.args.block.now c.told-block c.requires in
    sixteen
    (in_first x x 0 (omega arith)).is (in_first x x 4 (omega arith)).is (in_first x x 8 (omega arith)).is (in_first x x 12 (omega arith)).is
    (in_first x x 1 (omega arith)).is (in_first x x 5 (omega arith)).is (in_first x x 9 (omega arith)).is (in_first x x 13 (omega arith)).is
    (in_first x x 2 (omega arith)).is (in_first x x 6 (omega arith)).is (in_first x x 10 (omega arith)).is (in_first x x 14 (omega arith)).is
    (in_first x x 3 (omega arith)).is (in_first x x 7 (omega arith)).is (in_first x x 11 (omega arith)).is (in_first x x 15 (omega arith)).is
