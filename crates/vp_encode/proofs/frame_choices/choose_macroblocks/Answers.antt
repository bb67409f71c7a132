use Rattle.std.proofs.Common.{arith}
use Rattle.vp_encode.proofs.ChoosingLemmas.{all_chosen}
use Rattle.vp_encode.proofs.frame_choices.choose_macroblocks.Goals as goal

pub returns : goal.returns
returns c =
    let all = all_chosen _ c.loop-row.row _ (omega (arith, c.rows-row-end.ensures.value, c.loop-row.invariant.before.rows, c.in_ok-choosing.ensures.rows)) c.loop-row.invariant.before in
    record { chosen = all.0; motion = all.1; rebuilt = all.2 }
