use Rattle.std.proofs.Common.{◌∙◌, refl, arith}
use Rattle.vp_transform.specs.Pair.{even_block, odd_block}
use Rattle.vp_transform.proofs.Turning.{pair, even-within, odd-within, turned_pair, crossed_pair, rounded_pair, row_of_both, rows_are}
use Rattle.vp_transform.proofs.pair.idct_interleaved.Goals as goal

pub idct_1d-requires : goal.idct_1d-requires
idct_1d-requires c =
    let given = pair 2200 c.args.i0 c.args.i1 c.args.i2 c.args.i3 (omega arith) refl refl c.requires.even c.requires.odd in
    record { even = even-within 8466 (omega arith) given; odd = odd-within 8466 (omega arith) given }

pub idct_1d-requires-2 : goal.idct_1d-requires-2
idct_1d-requires-2 c =
    let given = pair 2200 c.args.i0 c.args.i1 c.args.i2 c.args.i3 (omega arith) refl refl c.requires.even c.requires.odd in
    let once = turned_pair given c.idct_1d.result.0 c.idct_1d.result.1 c.idct_1d.result.2 c.idct_1d.result.3 1191 675 (omega arith) (omega arith) (omega arith) c.idct_1d.ensures.even c.idct_1d.ensures.odd in
    let crossed = crossed_pair once c.transpose.result.0 c.transpose.result.1 c.transpose.result.2 c.transpose.result.3 (omega arith) c.transpose.ensures.even c.transpose.ensures.odd in
    record { even = even-within 8466 (omega arith) crossed; odd = odd-within 8466 (omega arith) crossed }

pub round-requires : goal.round-requires
round-requires c =
    let given = pair 2200 c.args.i0 c.args.i1 c.args.i2 c.args.i3 (omega arith) refl refl c.requires.even c.requires.odd in
    let once = turned_pair given c.idct_1d.result.0 c.idct_1d.result.1 c.idct_1d.result.2 c.idct_1d.result.3 1191 675 (omega arith) (omega arith) (omega arith) c.idct_1d.ensures.even c.idct_1d.ensures.odd in
    let crossed = crossed_pair once c.transpose.result.0 c.transpose.result.1 c.transpose.result.2 c.transpose.result.3 (omega arith) c.transpose.ensures.even c.transpose.ensures.odd in
    let twice = turned_pair crossed c.idct_1d-2.result.0 c.idct_1d-2.result.1 c.idct_1d-2.result.2 c.idct_1d-2.result.3 4582 2596 (omega arith) (omega arith) (omega arith) c.idct_1d-2.ensures.even c.idct_1d-2.ensures.odd in
    record { even = even-within 32763 (omega arith) twice; odd = odd-within 32763 (omega arith) twice }

pub returns : goal.returns
returns c =
    let x = even_block c.args.i0 c.args.i1 c.args.i2 c.args.i3 in
    let y = odd_block c.args.i0 c.args.i1 c.args.i2 c.args.i3 in
    let given = pair 2200 c.args.i0 c.args.i1 c.args.i2 c.args.i3 (omega arith) refl refl c.requires.even c.requires.odd in
    let once = turned_pair given c.idct_1d.result.0 c.idct_1d.result.1 c.idct_1d.result.2 c.idct_1d.result.3 1191 675 (omega arith) (omega arith) (omega arith) c.idct_1d.ensures.even c.idct_1d.ensures.odd in
    let crossed = crossed_pair once c.transpose.result.0 c.transpose.result.1 c.transpose.result.2 c.transpose.result.3 (omega arith) c.transpose.ensures.even c.transpose.ensures.odd in
    let twice = turned_pair crossed c.idct_1d-2.result.0 c.idct_1d-2.result.1 c.idct_1d-2.result.2 c.idct_1d-2.result.3 4582 2596 (omega arith) (omega arith) (omega arith) c.idct_1d-2.ensures.even c.idct_1d-2.ensures.odd in
    let done = rounded_pair 4072 twice c.round.result.0 c.round.result.1 c.round.result.2 c.round.result.3 (omega arith) c.round.ensures.even c.round.ensures.odd in
    record {
      top = c.side_by_side.ensures.top ∙ (row_of_both 0 done ∙ rows_are 0 x y);
      upper = c.side_by_side.ensures.upper ∙ (row_of_both 1 done ∙ rows_are 1 x y);
      lower = c.side_by_side.ensures.lower ∙ (row_of_both 2 done ∙ rows_are 2 x y);
      bottom = c.side_by_side.ensures.bottom ∙ (row_of_both 3 done ∙ rows_are 3 x y);
    }
