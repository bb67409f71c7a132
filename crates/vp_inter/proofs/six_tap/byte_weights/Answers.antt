use Rattle.std.proofs.Common.{arith}
use Rattle.std.proofs.lemmas.Int.{ints}
use Rattle.vp_inter.specs.Narrow.{weight}
use Rattle.vp_inter.proofs.LongLanes.{cast_fits, byte_is}
use Rattle.vp_inter.proofs.six_tap.byte_weights.Goals as goal

pub overflow_cast-result : goal.overflow_cast-result
overflow_cast-result c =
    let w = c.args.weights.now in
    let r = c.requires in
    let f0 = cast_fits (weight w 0) (omega (arith, ints), omega (arith, ints)) in
    let f1 = cast_fits (weight w 1) (omega (arith, ints), omega (arith, ints)) in
    let f2 = cast_fits (weight w 2) (omega (arith, ints), omega (arith, ints)) in
    let f3 = cast_fits (weight w 3) (omega (arith, ints), omega (arith, ints)) in
    let f4 = cast_fits (weight w 4) (omega (arith, ints), omega (arith, ints)) in
    let f5 = cast_fits (weight w 5) (omega (arith, ints), omega (arith, ints)) in
    (f0, (f1, (f2, (f3, (f2, (f3, (f4, (f5, tt))))))))

pub returns : goal.returns
returns c =
    let w = c.args.weights.now in
    let r = c.requires in
    let b0 = byte_is (weight w 0) (omega (arith, ints), omega (arith, ints)) in
    let b1 = byte_is (weight w 1) (omega (arith, ints), omega (arith, ints)) in
    let b2 = byte_is (weight w 2) (omega (arith, ints), omega (arith, ints)) in
    let b3 = byte_is (weight w 3) (omega (arith, ints), omega (arith, ints)) in
    let b4 = byte_is (weight w 4) (omega (arith, ints), omega (arith, ints)) in
    let b5 = byte_is (weight w 5) (omega (arith, ints), omega (arith, ints)) in
    record { first = (b0, b3); second = (b1, b4); third = (b2, b5) }
