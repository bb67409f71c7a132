use Rattle.std.proofs.Common.{arith}
use Rattle.vp_encode.proofs.ChoosingLemmas.{next_row}
use Rattle.vp_encode.proofs.frame_choices.FrameChoices.row.Goals as goal

pub returns-clause-chosen : goal.returns-clause-chosen
returns-clause-chosen c =
    next_row c.args.chooser.now c.args.row c.loop-column.column c.loop-column.self
    (omega (arith, c.loop-column.invariant.before.columns, c.requires.before.columns)) c.loop-column.invariant.before
