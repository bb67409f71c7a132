use Rattle.std.proofs.Common.{refl}
use Rattle.vp_intra.proofs.SubLemmas.{items_same}
use Rattle.vp_intra.proofs.modes.predict_modes.Goals as goal

pub returns : goal.returns
returns c es long e =
    let two = c.twos-twos.ensures es e in
    let three = c.threes-threes.ensures es e in
    items_same (c.direct.ensures es long e)
    (items_same (c.true_motion.ensures es e)
    (items_same (c.vertical.ensures es three)
    (items_same (c.horizontal.ensures es three)
    (items_same (c.down_left.ensures es three)
    (items_same (c.down_right.ensures es three)
    (items_same (c.vertical_right.ensures es two three)
    (items_same (c.vertical_left.ensures es two three)
    (items_same (c.horizontal_down.ensures es two three)
    (items_same (c.horizontal_up.ensures es two three) refl)))))))))
